use Rattle.std.proofs.Common.{Some, sym, ap, ◌∙◌}
use Rattle.mib_state.specs.declared.instances.Row.{Row}
use Rattle.managed_entity.specs.Instance.{Instance, shown_as}
use Rattle.mib_state.proofs.Place.{find_gap}
use Rattle.mib_state.proofs.Edits.{find_shown, shown_number}
use Rattle.mib_state.proofs.instances.Instances.get.Goals as goal

pub returns-in-Ok : goal.returns-in-Ok
returns-in-Ok g c =
    let shown : Row g.row.E.Denot → Instance = λ row. shown_as row.number (g.E.ManagedEntity.values row.entity) (g.E.ManagedEntity.entries row.entity) in
    let rows = c.self.inside.rows.items in
    let row = c.index.result.now in
    let there = rw (← c.self.view_is) at c.in-Ok.ensures.found in
    rw (← c.self.view_is) (
    ap (λ n. Some (shown_as n (g.E.ManagedEntity.values row.entity) (g.E.ManagedEntity.entries row.entity))) (sym (shown_number shown rows c.args.number c.in-Ok.at row there c.index.ensures))
    ∙ sym (find_shown shown rows c.args.number c.in-Ok.at row c.self.invariant.0 there c.index.ensures))

pub returns-in-Err : goal.returns-in-Err
returns-in-Err g c = sym (find_gap _ _ _ c.in-Err.ensures.absent)
