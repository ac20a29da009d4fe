use Rattle.std.proofs.Common.{◌≡◌, ◌≤◌, vec_len, vec_capacity}
use Rattle.managed_entity.specs.Class.{room_of, vlan_class}
use Rattle.forward_plan.specs.Parts.{AreForgotten}
use Rattle.forward_plan.proofs.compiling.spare_tables.Given as goal

-- there is room for those that are to come
abbrev pub invariant-loop-made : goal.invariant-loop-made
invariant-loop-made l = record {
  len : vec_len l.tables ≡ l.made;
  room : room_of vlan_class ≤ vec_capacity l.tables;
  none : AreForgotten (λ part. ⊥) l.tables.items l.tables.items;
}
