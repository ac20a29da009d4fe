use Rattle.std.proofs.Common.{◌<◌, ◌≤◌, length, sym, ap, subst, arith, refl, ◌∙◌}
use Rattle.std.proofs.lemmas.List.{length-map}
use Rattle.std.proofs.lemmas.Bool.{eqb-true, eqb-false}
use Rattle.mib_state.specs.Entities.{IsAscending}
use Rattle.managed_entity.specs.Answer.{outcome_of}
use Rattle.mib_state.specs.Step.{create_in}
use Rattle.mib_state.proofs.Edits.{create_exists, create_full, create_done}
use Rattle.mib_state.proofs.instances.Instances.check_create.Goals as goal

pub returns-then-request : goal.returns-then-request
unfolding create_in
returns-then-request g c = rw c.if-request.true refl

pub returns-in-Ok : goal.returns-in-Ok
returns-in-Ok g c = sym (ap outcome_of (create_exists g.E.ManagedEntity.layout g.E.ManagedEntity.ROOM c.args.request.now.instance c.args.request.now.contents c.args.self.now _ c.if-request.false (subst IsAscending c.self.view_is c.self.invariant.0) c.in-Ok.ensures.found))

pub returns-in-Err : goal.returns-in-Err
returns-in-Err g c =
    let full : g.E.ManagedEntity.ROOM ≤ length c.args.self.now = rw (← c.self.view_is, length-map) (omega (arith, eqb-true _ _ (sym c.is_empty.ensures ∙ c.if-is_empty.true), c.self.invariant.3, c.self.inside.rows.ok.0)) in
    sym (ap outcome_of (create_full g.E.ManagedEntity.layout g.E.ManagedEntity.ROOM c.args.request.now.instance c.args.request.now.contents c.args.self.now _ c.if-request.false c.in-Err.ensures.absent full))

pub returns-in-Err-2 : goal.returns-in-Err-2
returns-in-Err-2 g c =
    let room : length c.args.self.now < g.E.ManagedEntity.ROOM = rw (← c.self.view_is, length-map) (omega (arith, eqb-false _ _ (sym c.is_empty.ensures ∙ c.if-is_empty.false), c.self.invariant.3, c.self.inside.rows.ok.0)) in
    sym (ap outcome_of (create_done g.E.ManagedEntity.layout g.E.ManagedEntity.ROOM c.args.request.now.instance c.args.request.now.contents c.args.self.now _ c.if-request.false c.in-Err.ensures.absent room))
