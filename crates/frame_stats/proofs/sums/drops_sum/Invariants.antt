use Rattle.std.proofs.Common.{◌≡◌, ℕ, ◌+◌, ◌<◌, ◌^◌, length}
use Rattle.std.specs.Prelude.{slice_index}
use Rattle.frame_stats.proofs.sums.drops_sum.Given as goal

abbrev pub invariant-loop-k : goal.invariant-loop-k
invariant-loop-k l = (length l.sums ≡ 9) × ((j : ℕ) → j < l.k → (slice_index l.sums j ≡ slice_index l.a j + slice_index l.b j) × (slice_index l.a j + slice_index l.b j < 2 ^ 64))
