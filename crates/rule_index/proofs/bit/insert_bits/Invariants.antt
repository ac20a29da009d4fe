use Rattle.std.proofs.Common.{◌≡◌, ◌≤◌, ◌<◌, ◌==◌, ◌||◌, ℕ, length, get_or}
use Rattle.rule_index.specs.Masks.{with_bit}
use Rattle.rule_index.proofs.bit.insert_bits.Given as goal

abbrev pub invariant-loop-k : goal.invariant-loop-k
invariant-loop-k l = record {
  len : length l.masks ≡ length l.initial.masks;
  done : (j : ℕ) → j < l.k → get_or l.masks j 0 ≡ with_bit l.place (l.all || l.key == j) (get_or l.initial.masks j 0);
  rest : (j : ℕ) → l.k ≤ j → get_or l.masks j 0 ≡ get_or l.initial.masks j 0;
}
