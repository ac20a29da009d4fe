use Rattle.std.proofs.Common.{◌≡◌, ◌++◌, take}
use Rattle.std.specs.List.{flat_map}
use Rattle.explain_findings.specs.Graph.{mapper_edges_of}
use Rattle.explain_findings.proofs.drawing.append_mappers.Given as goal

abbrev pub invariant-each : goal.invariant-each
invariant-each l = l.edges.items ≡ l.fn.edges.items ++ flat_map (mapper_edges_of l.mib.entities) (take l.number-index l.numbers)
