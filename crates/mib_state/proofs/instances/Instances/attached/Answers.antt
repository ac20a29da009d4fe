use Rattle.std.proofs.Common.{sym, ◌∙◌}
use Rattle.mib_state.specs.declared.instances.Row.{Row}
use Rattle.managed_entity.specs.Instance.{Instance, shown_as}
use Rattle.mib_state.proofs.Attached.{least_first, first_here, first_later, first_past}
use Rattle.mib_state.proofs.instances.Instances.attached.Goals as goal

pub loop-row-init : goal.loop-row-init
loop-row-init g c = rw (c.deref-row-items.ensures.value, ← c.self.view_is) (sym (least_first (g.E.AttachedEntity.is_attached c.args.kind c.args.to) _ c.self.invariant.0))

pub returns-then-is_attached : goal.returns-then-is_attached
returns-then-is_attached g c =
    let shown : Row g.row.E.Denot → Instance = λ row. shown_as row.number (g.E.ManagedEntity.values row.entity) (g.E.ManagedEntity.entries row.entity) in
    let row = c.row-item.result in
    sym (first_here shown (g.E.AttachedEntity.is_attached c.args.kind c.args.to) _ _ row c.loop-row-test.true c.row-item.is (sym (c.is_attached.ensures row.number) ∙ c.if-is_attached.true)) ∙ c.loop-row.invariant

pub loop-row-preserved : goal.loop-row-preserved
loop-row-preserved g c =
    let shown : Row g.row.E.Denot → Instance = λ row. shown_as row.number (g.E.ManagedEntity.values row.entity) (g.E.ManagedEntity.entries row.entity) in
    let row = c.row-item.result in
    sym (first_later shown (g.E.AttachedEntity.is_attached c.args.kind c.args.to) _ _ row c.loop-row-test.true c.row-item.is (sym (c.is_attached.ensures row.number) ∙ c.if-is_attached.false)) ∙ c.loop-row.invariant

pub returns : goal.returns
returns g c =
    let shown : Row g.row.E.Denot → Instance = λ row. shown_as row.number (g.E.ManagedEntity.values row.entity) (g.E.ManagedEntity.entries row.entity) in
    sym (first_past shown (g.E.AttachedEntity.is_attached c.args.kind c.args.to) _ _ c.loop-row-test.false) ∙ c.loop-row.invariant
