use Rattle.std.proofs.Common.{◌≡◌, ◌++◌, length}
use Rattle.bench_history.proofs.among.Among.to_vec.Given as goal

-- the numbers so far, and those that are left
abbrev pub invariant-loop-number : goal.invariant-loop-number
invariant-loop-number l = l.frames.items ++ l.numbers ≡ l.self.numbers

abbrev pub decreases-loop-number : goal.decreases-loop-number
decreases-loop-number l = length l.numbers
