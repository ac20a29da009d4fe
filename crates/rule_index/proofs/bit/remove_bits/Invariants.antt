use Rattle.std.proofs.Common.{◌≡◌, ◌≤◌, ◌<◌, ℕ, length, get_or}
use Rattle.rule_index.specs.Masks.{without_bit}
use Rattle.rule_index.proofs.bit.remove_bits.Given as goal

abbrev pub invariant-loop-k : goal.invariant-loop-k
invariant-loop-k l = record {
  len : length l.masks ≡ length l.initial.masks;
  done : (j : ℕ) → j < l.k → get_or l.masks j 0 ≡ without_bit l.place (get_or l.initial.masks j 0);
  rest : (j : ℕ) → l.k ≤ j → get_or l.masks j 0 ≡ get_or l.initial.masks j 0;
}
