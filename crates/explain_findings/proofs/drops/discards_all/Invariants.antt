use Rattle.std.proofs.Common.{◌≡◌, take, true}
use Rattle.std.specs.List.{list_all}
use Rattle.explain_findings.specs.Drops.{lets_none}
use Rattle.explain_findings.proofs.drops.discards_all.Given as goal

abbrev pub invariant-each : goal.invariant-each
invariant-each l = list_all (lets_none l.table) (take l.place-index l.place-items) ≡ true
