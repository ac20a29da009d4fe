use Rattle.std.proofs.Common.{◌≡◌, ◌≤◌, length}
use Rattle.managed_entity.specs.Class.{room_of, vlan_class}
use Rattle.forward_plan.specs.Parts.{AreFirstKept, AreRight, IsTable}
use Rattle.forward_plan.proofs.compiling.compile_tables.Given as goal

-- those so far are at their places
abbrev pub invariant-loop-place : goal.invariant-loop-place
invariant-loop-place l = record {
  room : length l.tables ≡ room_of vlan_class;
  right : AreRight IsTable l.mib.entities.vlans l.tables;
  kept : AreFirstKept IsTable l.mib.entities.vlans l.tables l.place;
  few : l.place ≤ room_of vlan_class;
  count : l.compiled ≤ l.place;
}
