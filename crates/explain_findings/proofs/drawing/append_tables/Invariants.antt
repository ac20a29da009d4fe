use Rattle.std.proofs.Common.{◌≡◌, ◌++◌, take}
use Rattle.std.specs.List.{filter_map}
use Rattle.explain_findings.specs.Graph.{table_edge_of}
use Rattle.explain_findings.proofs.drawing.append_tables.Given as goal

abbrev pub invariant-each : goal.invariant-each
invariant-each l = l.edges.items ≡ l.fn.edges.items ++ filter_map (table_edge_of l.mib.entities) (take l.number-index l.numbers)
