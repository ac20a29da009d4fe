use Rattle.std.proofs.Common.{◌≡◌, ◌≤◌, vec_len, vec_capacity}
use Rattle.managed_entity.specs.Class.{mapper_class, room_of}
use Rattle.forward_plan.specs.Parts.{AreForgotten}
use Rattle.forward_plan.proofs.compiling.spare_mappers.Given as goal

-- there is room for those that are to come
abbrev pub invariant-loop-made : goal.invariant-loop-made
invariant-loop-made l = record {
  len : vec_len l.mappers ≡ l.made;
  room : room_of mapper_class ≤ vec_capacity l.mappers;
  none : AreForgotten (λ part. ⊥) l.mappers.items l.mappers.items;
}
