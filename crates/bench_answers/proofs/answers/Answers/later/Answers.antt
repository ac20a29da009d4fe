use Rattle.std.proofs.Common.{◌∙◌}
use Rattle.bench_answers.proofs.Lookups.{later_meant, not_later, waits_found, was_sent}
use Rattle.bench_answers.proofs.Places.{found, not_found}
use Rattle.bench_answers.proofs.answers.Answers.later.Goals as goal

pub returns-in_default : goal.returns-in_default
returns-in_default c = λ grounds events place is. λ k meant.
    absurd (cc (waits_found grounds events place c.args.self.now is c.args.reply.now c.deref.result.now c.deref.ensures.value _ c.in_default.ensures ∙ meant))

pub returns-then-number-next : goal.returns-then-number-next
returns-then-number-next c = λ grounds events place is. λ k meant.
    let self = c.args.self.now in
    not_later grounds events place self is c.args.reply.now c.in-Some.number k
    (waits_found grounds events place self is c.args.reply.now c.deref.result.now c.deref.ensures.value _ c.in-Some.ensures) meant c.if-number-next.true

pub returns-in_default-get : goal.returns-in_default-get
returns-in_default-get c = λ grounds events place is. λ k meant.
    let self = c.args.self.now in
    absurd (was_sent grounds events place self is c.args.reply.now c.in-Some.number
    (waits_found grounds events place self is c.args.reply.now c.deref.result.now c.deref.ensures.value _ c.in-Some.ensures)
    (not_found self.asking.due.items c.deref-2.result.now c.in-Some.number c.deref-2.ensures.value c.in_default-get.ensures.lookup.3))

pub returns : goal.returns
returns c = λ grounds events place is.
    let self = c.args.self.now in
    let due = c.in-Some-get.due.now in
    let looked = c.in-Some-get.ensures.lookup in
    later_meant grounds events place self is c.args.reply.now c.in-Some.number due
    (waits_found grounds events place self is c.args.reply.now c.deref.result.now c.deref.ensures.value _ c.in-Some.ensures) c.if-number-next.false
    (found self.asking.due.items c.deref-2.result.now c.in-Some.number due c.deref-2.ensures.value looked.3.0 looked.1)
