use Rattle.std.proofs.Common.{◌≡◌, ◌≤◌, ◌*◌, Some, take}
use Rattle.std.specs.List.{concat}
use Rattle.vlan_rule.specs.Table.{table_max_size}
use Rattle.std.specs.Prelude.{vec_capacity, vec_len}
use Rattle.mib_state.proofs.latch.Latch.take.Given as goal

-- the entries so far are latched, and there is room for the rest
abbrev pub invariant-loop-place : goal.invariant-loop-place
invariant-loop-place l = record {
  number : l.self-inside.instance ≡ Some l.instance;
  bytes : l.self-inside.bytes.items ≡ concat (take l.place l.table);
  count : vec_len l.self-inside.bytes ≡ 16 * l.place;
  room : 16 * table_max_size ≤ vec_capacity l.self-inside.bytes;
}
