use Rattle.std.proofs.Common.{◌≡◌, ◌<◌, ℕ, get_or}
use Rattle.bench_sight.proofs.digits.are_zeros.Given as goal

abbrev pub invariant-loop-digit : goal.invariant-loop-digit
invariant-loop-digit l = (k : ℕ) → k < l.digit-index → get_or l.digits k 0 ≡ 48
