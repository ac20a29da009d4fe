use Rattle.std.proofs.Common.{◌≤◌, length, sym, subst, arith}
use Rattle.std.proofs.lemmas.List.{length-map}
use Rattle.managed_entity.specs.Instance.{shown_as}
use Rattle.mib_state.specs.Entities.{IsAscending}
use Rattle.mib_state.proofs.Next.{next_at, next_shown, next_past}
use Rattle.mib_state.proofs.instances.Instances.next.Goals as goal

pub returns-in-Ok : goal.returns-in-Ok
returns-in-Ok g c = sym (next_at _ _ _ (subst IsAscending c.self.view_is c.self.invariant.0) c.in-Ok.ensures.found)

pub returns-in-Err : goal.returns-in-Err
returns-in-Err g c =
    rw (← c.self.view_is) (sym (next_shown (λ row. shown_as row.number (g.E.ManagedEntity.values row.entity) (g.E.ManagedEntity.entries row.entity)) c.self.inside.rows.items c.args.from c.in-Err.at c.index.result.now (rw (← c.self.view_is) at c.in-Err.ensures.absent) (omega (arith, c.if-at-len.true, c.len.ensures, c.self.inside.rows.ok.0)) c.index.ensures))

pub returns-in-Err-2 : goal.returns-in-Err-2
returns-in-Err-2 g c =
    let past : length c.args.self.now ≤ c.in-Err.at = rw (← c.self.view_is, length-map) (omega (arith, c.if-at-len.false, c.len.ensures, c.self.inside.rows.ok.0)) in
    sym (next_past _ _ _ c.in-Err.ensures.absent past)
