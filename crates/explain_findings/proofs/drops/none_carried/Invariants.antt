use Rattle.std.proofs.Common.{◌≡◌, take, true}
use Rattle.std.specs.List.{list_all}
use Rattle.std.specs.Prelude.{is_err}
use Rattle.explain_findings.proofs.drops.none_carried.Given as goal

abbrev pub invariant-each : goal.invariant-each
invariant-each l = list_all is_err (take l.route-index l.routes) ≡ true
