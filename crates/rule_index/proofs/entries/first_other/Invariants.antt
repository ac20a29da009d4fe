use Rattle.std.proofs.Common.{◌≡◌, ◌<◌, ◌≤◌, ℕ, map}
use Rattle.vlan_rule.specs.declared.entry.Entry.{Entry}
use Rattle.vlan_rule.specs.Choice.{entry_at}
use Rattle.rule_index.proofs.entries.first_other.Given as goal

abbrev pub invariant-loop-place : goal.invariant-loop-place
invariant-loop-place l = (k : ℕ) → l.from ≤ k → k < l.place → entry_at (map (λ (entry : Entry). entry.0) l.entries) k ≡ entry_at l.table k
