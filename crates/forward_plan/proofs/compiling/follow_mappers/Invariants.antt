use Rattle.std.proofs.Common.{◌≡◌, ◌≤◌, length}
use Rattle.managed_entity.specs.Class.{mapper_class, room_of}
use Rattle.forward_plan.specs.Parts.{AreFirstKept, AreRight, IsMapper}
use Rattle.forward_plan.proofs.compiling.follow_mappers.Given as goal

-- those so far are at their places
abbrev pub invariant-loop-place : goal.invariant-loop-place
invariant-loop-place l = record {
  room : length l.mappers ≡ room_of mapper_class;
  right : AreRight (IsMapper l.mib.entities) l.mib.entities.mappers l.mappers;
  kept : AreFirstKept (IsMapper l.mib.entities) l.mib.entities.mappers l.mappers l.place;
  few : l.place ≤ room_of mapper_class;
  count : l.compiled ≤ l.place;
}
