use Rattle.std.proofs.Common.{◌≡◌, ◌<◌, ℕ, get_or}
use Rattle.script_digits.proofs.Digits.{lower_of}
use Rattle.bench_sight.proofs.digits.are_same_in_lower_case.Given as goal

abbrev pub invariant-loop-i : goal.invariant-loop-i
invariant-loop-i l = (k : ℕ) → k < l.i → lower_of (get_or l.one k 0) ≡ lower_of (get_or l.other k 0)
