use Rattle.std.proofs.Common.{slice_index}
use Rattle.bench_answers.specs.Ground.{Ground}
use Rattle.bench_judge.specs.Course.{AreJudgedUnder}
use Rattle.bench_judge.specs.Walk.{AreSentBy}
use Rattle.bench_judge.proofs.course.judged_frames.Given as goal

abbrev pub invariant-loop-number : goal.invariant-loop-number
invariant-loop-number l =
    (grounds : Ground) → AreSentBy grounds l.events l.frames
    → AreJudgedUnder l.base l.events l.frames (slice_index l.versions) l.number l.list.items
