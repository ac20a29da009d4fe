use Rattle.std.proofs.Common.{◌≡◌, map, take}
use Rattle.bench_judge.specs.Cut.{until}
use Rattle.bench_judge.proofs.cut.frames_until.Given as goal

abbrev pub invariant-loop-frame : goal.invariant-loop-frame
invariant-loop-frame l = l.cut.items ≡ map (until l.place) (take l.frame-index l.frames)
