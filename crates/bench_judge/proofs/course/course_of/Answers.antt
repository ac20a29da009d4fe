use Rattle.bench_judge.proofs.Courses.{course_is}
use Rattle.bench_judge.proofs.course.course_of.Goals as goal

pub returns : goal.returns
returns c terms kept =
    course_is terms c.args.events.now c.args.known.now c.args.walk c.in_ok-frames.frames kept c.deref.result.now c.deref-2.result.now
    c.deref.ensures.value c.deref-2.ensures.value c.in_ok-frames.ensures
