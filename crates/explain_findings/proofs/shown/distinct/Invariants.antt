use Rattle.std.proofs.Common.{◌≡◌, [], take}
use Rattle.std.specs.Prelude.{fold}
use Rattle.explain_findings.specs.Graph.{add}
use Rattle.explain_findings.proofs.shown.distinct.Given as goal

abbrev pub invariant-each : goal.invariant-each
invariant-each l = l.list.items ≡ fold add [] (take l.number-index l.numbers)
