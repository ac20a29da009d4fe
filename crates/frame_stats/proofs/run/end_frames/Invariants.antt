use Rattle.std.proofs.Common.{◌≡◌, ◌<◌, ℕ, length, get_or}
use Rattle.frame_stats.specs.Ports.{no_run}
use Rattle.frame_stats.proofs.run.end_frames.Given as goal

abbrev pub invariant-loop-place : goal.invariant-loop-place
invariant-loop-place l = (length l.runs ≡ 16) × ((k : ℕ) → k < l.place → (get_or l.runs k no_run).frames ≡ 0)
