use Rattle.std.proofs.Common.{◌≡◌, take, map, vec_capacity, vec_len}
use Rattle.vlan_rule.specs.declared.entry.Entry.{Entry}
use Rattle.rule_index.proofs.entries.copy_entries.Given as goal

abbrev pub invariant-loop-place : goal.invariant-loop-place
invariant-loop-place l = record {
  entries : map (λ (entry : Entry). entry.0) l.entries.items ≡ take l.place l.table;
  room : vec_capacity l.entries ≡ vec_capacity l.initial.entries;
  len : vec_len l.entries ≡ l.place;
}
