use Rattle.std.proofs.Common.{Decides, List, false, take, subst}
use Rattle.bench_history.specs.declared.event.Event.{Event}
use Rattle.bench_answers.specs.Right.{IsRightAs}
use Rattle.bench_answers.specs.declared.standing.Standing.{Standing}
use Rattle.bench_answers.proofs.Lookups.{right_by, wrong_by}
use Rattle.bench_answers.proofs.Places.{found, not_found}
use Rattle.bench_answers.proofs.answers.Answers.is_right.Goals as goal

pub returns-in-Some : goal.returns-in-Some
returns-in-Some c = λ grounds events place is.
    let self = c.args.self.now in
    let before : List Event = take place events in
    let expected = c.in-Some.expected.now in
    let looked = c.in-Some.ensures.lookup in
    subst (λ (s : Standing). Decides c.is_reply_to.result (IsRightAs grounds before c.args.reply.now s)) (c.in-Answers.ensures grounds events place is)
    (right_by grounds events place self is c.in-Answers.number expected c.args.reply.now c.is_reply_to.result
    (found self.asking.expected.items c.deref.result.now c.in-Answers.number expected c.deref.ensures.value looked.3.0 looked.1) c.is_reply_to.ensures)

pub returns-in-None : goal.returns-in-None
returns-in-None c = λ grounds events place is.
    let self = c.args.self.now in
    let before : List Event = take place events in
    subst (λ (s : Standing). Decides false (IsRightAs grounds before c.args.reply.now s)) (c.in-Answers.ensures grounds events place is)
    (wrong_by grounds events place self is c.in-Answers.number c.args.reply.now
    (not_found self.asking.expected.items c.deref.result.now c.in-Answers.number c.deref.ensures.value c.in-None.ensures.lookup.3))
