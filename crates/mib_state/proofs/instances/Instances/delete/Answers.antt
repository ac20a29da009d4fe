use Rattle.std.proofs.Common.{◌≡◌, is_ok, true, sym, ap, subst, arith}
use Rattle.mib_state.specs.Entities.{IsAscending}
use Rattle.managed_entity.specs.Answer.{left_by}
use Rattle.mib_state.proofs.Place.{map-remove, ascending_remove}
use Rattle.mib_state.proofs.Edits.{delete_found, delete_missing}
use Rattle.mib_state.proofs.instances.Instances.delete.Goals as goal
use Rattle.mib_state.proofs.instances.Instances.delete.Goals.{in-Err-1, in-Ok-1}

pub invariant_of-self-in-Ok-2 : goal.invariant_of-self-in-Ok-2
invariant_of-self-in-Ok-2 g c =
    let inside = rw (← c.self.view_is) at c.in-Ok.ensures.found.in_range in
    let all = c.self.invariant.3 in
    let shorter = c.remove-entity.ensures.len in
    let fits : is_ok c.push.result ≡ true = c.push.ensures.succeeds (omega (arith, all, shorter, c.self.invariant.2)) in (
      rw (c.remove-entity.ensures.items, map-remove) (ascending_remove _ _ inside c.self.invariant.0),
      omega (arith, c.remove-entity.ensures.capacity, c.self.invariant.1),
      omega (arith, c.push.ensures.capacity, c.self.invariant.2),
      omega (arith, all, shorter, rw fits at c.push.ensures.len),
    )

pub returns-in-Ok : goal.returns-in-Ok
returns-in-Ok g c =
    let done = sym (ap (left_by c.args.self.now) (delete_found _ _ _ (subst IsAscending c.self.view_is c.self.invariant.0) c.in-Ok.ensures.found)) in
    elim c.match-push.branch [
      | in-Err-1 w ↦ rw (w.self-is, c.remove-entity.ensures.items, map-remove, c.self.view_is) done
      | in-Ok-1 w ↦ rw (w.self-is, c.remove-entity.ensures.items, map-remove, c.self.view_is) done
    ]

pub returns-in_default : goal.returns-in_default
returns-in_default g c = sym (ap (left_by c.args.self.now) (delete_missing _ _ _ c.in_default.ensures.absent))
