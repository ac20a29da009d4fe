use Rattle.std.proofs.Common.{◌≡◌, map, drop}
use Rattle.mib_state.specs.declared.instances.Row.{Row}
use Rattle.managed_entity.specs.Instance.{Instance, shown_as}
use Rattle.mib_state.specs.Attached.{least_instance}
use Rattle.mib_state.proofs.Attached.{first_of}
use Rattle.mib_state.proofs.instances.Instances.attached.Given as goal

-- no row before this one is attached
abbrev pub invariant-loop-row : goal.invariant-loop-row
invariant-loop-row g l =
    let shown : Row g.row.E.Denot → Instance = λ row. shown_as row.number (g.E.ManagedEntity.values row.entity) (g.E.ManagedEntity.entries row.entity) in
    let test = g.E.AttachedEntity.is_attached l.kind l.to in
    first_of test (map shown (drop l.row-index l.row-items)) ≡ least_instance test l.self
