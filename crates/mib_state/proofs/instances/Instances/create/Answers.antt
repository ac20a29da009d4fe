use Rattle.std.proofs.Common.{◌≡◌, ◌<◌, ◌≤◌, length, is_ok, true, sym, ap, subst, arith}
use Rattle.std.proofs.lemmas.List.{length-map}
use Rattle.mib_state.specs.Entities.{IsAscending}
use Rattle.managed_entity.specs.Answer.{left_by}
use Rattle.mib_state.proofs.Place.{map-insert, ascending_insert}
use Rattle.mib_state.proofs.Edits.{create_usual, create_exists, create_full, create_done}
use Rattle.mib_state.proofs.instances.Instances.create.Goals as goal
use Rattle.mib_state.proofs.instances.Instances.create.Goals.{in-Err-1, in-Ok-1}

pub invariant_of-self-in-Some-2 : goal.invariant_of-self-in-Some-2
invariant_of-self-in-Some-2 g c =
    let popped = c.in-Some.ensures.cases in
    let fits : is_ok c.insert.result ≡ true = c.insert.ensures.succeeds (omega (arith, popped, c.self.invariant.1, c.self.invariant.3)) in (
      rw (c.insert.ensures.items, fits, map-insert) (ascending_insert _ _ _ (rw (← c.self.view_is) at c.in-Err.ensures.absent) c.self.invariant.0),
      omega (arith, c.insert.ensures.capacity, c.self.invariant.1),
      omega (arith, c.in-Some.ensures.capacity, c.self.invariant.2),
      omega (arith, popped, c.self.invariant.3, rw fits at c.insert.ensures.len),
    )

pub returns-in-Some : goal.returns-in-Some
returns-in-Some g c =
    let usual = create_usual _ _ _ _ _ c.requires in
    let fits : is_ok c.insert.result ≡ true = c.insert.ensures.succeeds (omega (arith, c.in-Some.ensures.cases, c.self.invariant.1, c.self.invariant.3)) in
    let room : length c.args.self.now < g.E.ManagedEntity.ROOM = rw (← c.self.view_is, length-map) (omega (arith, c.in-Some.ensures.cases, c.self.invariant.3, c.self.inside.rows.ok.0)) in
    let done = sym (ap (left_by c.args.self.now) (create_done g.E.ManagedEntity.layout g.E.ManagedEntity.ROOM c.args.request.now.instance c.args.request.now.contents c.args.self.now _ usual c.in-Err.ensures.absent room)) in
    elim c.match-insert.branch [
      | in-Err-1 w ↦ rw (w.self-is, c.insert.ensures.items, fits, map-insert, c.self.view_is) (rw (c.create.ensures c.args.request.now.instance) done)
      | in-Ok-1 w ↦ rw (w.self-is, c.insert.ensures.items, fits, map-insert, c.self.view_is) (rw (c.create.ensures c.args.request.now.instance) done)
    ]

pub returns-in_default-pop : goal.returns-in_default-pop
returns-in_default-pop g c =
    let usual = create_usual _ _ _ _ _ c.requires in
    let full : g.E.ManagedEntity.ROOM ≤ length c.args.self.now = rw (← c.self.view_is, length-map) (omega (arith, c.in_default-pop.ensures.cases, c.self.invariant.3, c.self.inside.rows.ok.0)) in
    rw c.self.view_is (sym (ap (left_by c.args.self.now) (create_full g.E.ManagedEntity.layout g.E.ManagedEntity.ROOM c.args.request.now.instance c.args.request.now.contents c.args.self.now _ usual c.in-Err.ensures.absent full)))

pub returns-in_default : goal.returns-in_default
returns-in_default g c =
    let usual = create_usual _ _ _ _ _ c.requires in
    sym (ap (left_by c.args.self.now) (create_exists g.E.ManagedEntity.layout g.E.ManagedEntity.ROOM c.args.request.now.instance c.args.request.now.contents c.args.self.now _ usual (subst IsAscending c.self.view_is c.self.invariant.0) c.in_default.ensures.found))
