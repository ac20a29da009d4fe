use Rattle.std.proofs.Common.{◌≡◌, ◌++◌, map, take}
use Rattle.explain_findings.specs.Graph.{graph_node}
use Rattle.explain_findings.proofs.drawing.append_nodes.Given as goal

abbrev pub invariant-each : goal.invariant-each
invariant-each l = l.nodes.items ≡ l.fn.nodes.items ++ map (graph_node l.mib.entities l.kind) (take l.number-index l.numbers)
