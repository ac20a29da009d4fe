use Rattle.std.proofs.Common.{◌-◌}
use Rattle.bench_answers.proofs.Lookups.{least_by_due}
use Rattle.bench_answers.proofs.Places.{found}
use Rattle.bench_answers.proofs.answers.Answers.least.Goals as goal

pub returns-in-Some : goal.returns-in-Some
returns-in-Some c = λ grounds events place is.
    let self = c.args.self.now in
    let due = c.in-Some.due.now in
    let looked = c.in-Some.ensures.lookup in
    least_by_due grounds events place self is due c.if-self-eq0.false
    (found self.asking.due.items c.deref.result.now (self.waited - 1) due c.deref.ensures.value looked.3.0 looked.1)
