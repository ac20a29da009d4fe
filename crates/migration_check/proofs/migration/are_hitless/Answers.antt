use Rattle.std.proofs.Common.{subst, sym}
use Rattle.std.specs.Prelude.{All}
use Rattle.mib_state.specs.Entities.{Entities}
use Rattle.migration_check.specs.Migration.{AreHitless, AreHitlessAt}
use Rattle.migration_check.specs.Ports.{AreNamedOnWay}
use Rattle.migration_check.proofs.Told.{otherwise}
use Rattle.migration_check.proofs.Elsewhere.{hitless, hitless_at_all}
use Rattle.migration_check.proofs.migration.are_hitless.Goals as goal

pub returns : goal.returns
returns c =
    let e = c.args.before.now.entities in
    let g = c.args.end.now.entities in
    let requests = c.args.requests.now in
    let list = c.deref.result.now in
    let named : AreNamedOnWay e requests list =
    subst (AreNamedOnWay e requests) (sym c.deref.ensures.value)
    (subst (λ (s : Entities). AreNamedOnWay s requests c.in_ok-ports.ports.items) (sym c.requires) c.in_ok-ports.ensures) in
    otherwise c.in_ok-are_hitless.are_hitless (All (AreHitlessAt e requests g) list) (AreHitless e requests g) c.in_ok-are_hitless.ensures
    (hitless c.law_of_named_ports.ensures e g requests list named) (hitless_at_all e g requests list)
