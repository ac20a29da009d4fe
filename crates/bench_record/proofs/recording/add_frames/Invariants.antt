use Rattle.std.proofs.Common.{◌≡◌, ◌+◌, ◌++◌, drop, map}
use Rattle.bench_record.specs.Recorded.{sourced_from}
use Rattle.bench_record.specs.Walk.{sourced_shown}
use Rattle.bench_record.proofs.recording.add_frames.Given as goal

-- with the frames that are left, there are all of them
abbrev pub invariant-loop-place : goal.invariant-loop-place
invariant-loop-place l =
    map sourced_shown l.frames.items ++ sourced_from l.number (l.place + 1) (drop l.place l.capture.frames.now)
    ≡ map sourced_shown l.fn.frames.items ++ sourced_from l.number 1 l.capture.frames.now
