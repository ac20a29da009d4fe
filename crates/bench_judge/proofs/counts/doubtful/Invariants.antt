use Rattle.std.proofs.Common.{take}
use Rattle.bench_judge.specs.Counted.{AreMarks}
use Rattle.bench_judge.proofs.counts.doubtful.Given as goal

abbrev pub invariant-loop-event : goal.invariant-loop-event
invariant-loop-event l = AreMarks (take l.event-index l.events) l.frames l.marks.items
