use Rattle.std.proofs.Common.{◌≡◌, ◌-◌, ◌≤◌, length, map, take}
use Rattle.managed_entity.specs.Class.{mapper_class, room_of}
use Rattle.forward_plan.specs.Attachment.{mapper_naming}
use Rattle.forward_plan.proofs.naming.Namings.read_mappers.Given as goal

abbrev pub invariant-loop-number : goal.invariant-loop-number
invariant-loop-number l = record {
  so_far : l.self.mappers.items ≡ map mapper_naming (take (length l.self.mappers.items) l.mib.entities.mappers);
  few : length l.self.mappers.items ≤ room_of mapper_class;
}

abbrev pub decreases-loop-number : goal.decreases-loop-number
decreases-loop-number l = room_of mapper_class - length l.self.mappers.items
