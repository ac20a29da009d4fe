use Rattle.std.proofs.Common.{◌≡◌, ◌-◌, ◌≤◌, length, map, take}
use Rattle.managed_entity.specs.Class.{room_of, vlan_class}
use Rattle.forward_plan.specs.Attachment.{table_naming}
use Rattle.forward_plan.proofs.naming.Namings.read_tables.Given as goal

abbrev pub invariant-loop-number : goal.invariant-loop-number
invariant-loop-number l = record {
  so_far : l.self.tables.items ≡ map table_naming (take (length l.self.tables.items) l.mib.entities.vlans);
  few : length l.self.tables.items ≤ room_of vlan_class;
  mappers : l.self.mappers.items ≡ l.fn.self.mappers.items;
}

abbrev pub decreases-loop-number : goal.decreases-loop-number
decreases-loop-number l = room_of vlan_class - length l.self.tables.items
