use Rattle.std.proofs.Common.{◌≡◌, length}
use Rattle.bench_history.specs.History.{are_among}
use Rattle.bench_history.proofs.doubts.are_among.Given as goal

-- those that were looked for are among the frames
abbrev pub invariant-loop-rest : goal.invariant-loop-rest
invariant-loop-rest l = are_among l.frames l.rest ≡ are_among l.frames l.some

abbrev pub decreases-loop-rest : goal.decreases-loop-rest
decreases-loop-rest l = length l.rest
