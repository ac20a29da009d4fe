use Rattle.std.proofs.Common.{◌≡◌, ◌++◌, drop, map}
use Rattle.bench_record.specs.Recorded.{frames_from}
use Rattle.bench_record.specs.Walk.{sourced_shown}
use Rattle.bench_record.proofs.recording.frames_of.Given as goal

-- with the frames of the captures that are left, there are all of them
abbrev pub invariant-loop-number : goal.invariant-loop-number
invariant-loop-number l = map sourced_shown l.frames.items ++ frames_from l.number (drop l.number l.captures) ≡ frames_from 0 l.captures
