use Rattle.bench_answers.proofs.Lookups.{next_awaited}
use Rattle.bench_answers.proofs.Places.{found}
use Rattle.bench_answers.proofs.answers.Answers.awaited.Goals as goal

pub returns : goal.returns
returns c = λ grounds events place is.
    let self = c.args.self.now in
    let expected = c.in_ok-expected.expected.now in
    let due = c.in_ok-due.due.now in
    let one = c.in_ok-expected.ensures.lookup in
    let other = c.in_ok-due.ensures.lookup in
    next_awaited grounds events place self is expected due
    (found self.asking.expected.items c.deref.result.now self.replies.counts.next expected c.deref.ensures.value one.3.0 one.1)
    (found self.asking.due.items c.deref-2.result.now self.replies.counts.next due c.deref-2.ensures.value other.3.0 other.1)
