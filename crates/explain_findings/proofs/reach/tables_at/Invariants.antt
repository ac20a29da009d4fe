use Rattle.std.proofs.Common.{◌≡◌, take}
use Rattle.std.specs.List.{filter_map}
use Rattle.mib_state.specs.Attached.{table_of_port}
use Rattle.explain_findings.proofs.reach.tables_at.Given as goal

abbrev pub invariant-each : goal.invariant-each
invariant-each l = l.list.items ≡ filter_map (table_of_port l.mib.entities) (take l.port-index l.ports)
