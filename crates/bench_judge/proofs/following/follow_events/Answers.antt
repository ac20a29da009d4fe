use Rattle.bench_judge.specs.Terms.{terms_of}
use Rattle.bench_judge.proofs.Held.{nothing_known}
use Rattle.bench_judge.proofs.Courses.{course_beside, none_beside}
use Rattle.bench_judge.proofs.following.follow_events.Goals as goal

pub judge_events-requires-clause-known : goal.judge_events-requires-clause-known
judge_events-requires-clause-known g c = nothing_known (terms_of c.args.terms.now) c.args.events.now c.nothing-nothing.result c.nothing-nothing.ensures
