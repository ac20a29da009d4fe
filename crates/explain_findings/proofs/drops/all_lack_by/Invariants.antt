use Rattle.std.proofs.Common.{◌≡◌, take, true}
use Rattle.std.specs.List.{list_all}
use Rattle.explain_findings.specs.Drops.{lacks_by}
use Rattle.explain_findings.proofs.drops.all_lack_by.Given as goal

abbrev pub invariant-each : goal.invariant-each
invariant-each l = list_all (lacks_by l.reason) (take l.route-index l.routes) ≡ true
