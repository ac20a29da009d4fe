use Rattle.std.proofs.Common.{◌≡◌, ◌<◌, ◌==◌, ◌/◌, ◌%◌, ℕ, length, get_or}
use Rattle.rule_index.specs.Codes.{joined_tpid}
use Rattle.rule_index.proofs.code_masks.joined_tpids.Given as goal

abbrev pub invariant-loop-k : goal.invariant-loop-k
invariant-loop-k l = record {
  len : length l.joined ≡ 8;
  done : (k : ℕ) → k < l.k → get_or l.joined k 0 ≡ joined_tpid l.masks (k / 4 == 1) (k / 2 % 2 == 1) (k % 2 == 1);
}
