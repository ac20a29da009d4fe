use Rattle.std.proofs.Common.{◌≡◌, ◌++◌, ◌-◌, ◌≤◌, take}
use Rattle.std.specs.List.{filter_map}
use Rattle.managed_entity.specs.Class.{mapper_class, room_of}
use Rattle.explain_findings.specs.Reach.{port_of_mapper}
use Rattle.explain_findings.proofs.reach.append_ports_of_mappers.Given as goal

abbrev pub invariant-each : goal.invariant-each
invariant-each l = record {
  so_far : l.list.items ≡ l.fn.list.items ++ filter_map port_of_mapper (take l.place l.mib.entities.mappers);
  few : l.place ≤ room_of mapper_class;
}

abbrev pub decreases-each : goal.decreases-each
decreases-each l = room_of mapper_class - l.place
