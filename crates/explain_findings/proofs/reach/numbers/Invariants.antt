use Rattle.std.proofs.Common.{◌≡◌, ◌-◌, ◌≤◌, map, take}
use Rattle.managed_entity.specs.Class.{class_number, room_of}
use Rattle.mib_state.specs.Entities.{instances_of}
use Rattle.explain_findings.proofs.reach.numbers.Given as goal

abbrev pub invariant-each : goal.invariant-each
invariant-each l = record {
  so_far : l.list.items ≡ map (λ i. i.number) (take l.place (instances_of l.mib.entities (class_number l.class)));
  few : l.place ≤ room_of (class_number l.class);
}

abbrev pub decreases-each : goal.decreases-each
decreases-each l = room_of (class_number l.class) - l.place
