use Rattle.std.proofs.Common.{sym, ◌∙◌}
use Rattle.managed_entity.proofs.Written.{table_at-get_or}
use Rattle.managed_entity.proofs.Returned.{table_past}
use Rattle.mib_state.proofs.instances.is_table.Goals as goal

pub returns-then-place-layout : goal.returns-then-place-layout
returns-then-place-layout g c = sym (table_past g.E.ManagedEntity.layout c.args.place (rw c.layout-layout.ensures at c.if-place-layout.true))

pub returns : goal.returns
returns g c =
    let inside = rw c.layout-layout.ensures at c.if-place-layout.false in
    rw c.layout-layout.ensures at c.is_table.ensures ∙ sym (table_at-get_or g.E.ManagedEntity.layout _ c.args.place inside)
