use Rattle.std.proofs.Common.{◌≡◌, ◌++◌, take}
use Rattle.std.specs.List.{filter_map}
use Rattle.explain_findings.specs.Findings.{unused_entry}
use Rattle.explain_findings.proofs.table.append_unused.Given as goal

abbrev pub invariant-each : goal.invariant-each
invariant-each l = l.findings.items ≡ l.fn.findings.items ++ filter_map (unused_entry l.number l.table) (take l.place-index l.place-items)
