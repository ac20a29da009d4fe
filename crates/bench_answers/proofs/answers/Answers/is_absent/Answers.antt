use Rattle.std.proofs.Common.{sym, ◌∙◌, arith}
use Rattle.bench_answers.proofs.Lookups.{absent_of_none, absent_of_past, absent_of_start, past_any, start_any}
use Rattle.bench_answers.proofs.answers.Answers.is_absent.Goals as goal

pub returns-then-has_one_head : goal.returns-then-has_one_head
returns-then-has_one_head c = λ grounds events place is.
    let self = c.args.self.now in
    absent_of_start grounds events place self is c.args.reply.now
    (sym (start_any grounds events place self is c.args.reply.now c.deref.result.now c.len.result c.has_one_head.result c.deref.ensures.value
    (omega (arith, c.len.ensures, self.start.ok.0)) c.has_one_head.ensures) ∙ c.if-has_one_head.true)

pub returns-then-has_one_head-2 : goal.returns-then-has_one_head-2
returns-then-has_one_head-2 c = λ grounds events place is.
    let self = c.args.self.now in
    absent_of_past grounds events place self is c.args.reply.now
    (sym (past_any grounds events place self is c.args.reply.now c.deref-2.result.now c.has_one_head-2.result c.deref-2.ensures.value c.has_one_head-2.ensures)
    ∙ c.if-has_one_head-2.true)

pub returns : goal.returns
returns c = λ grounds events place is.
    let self = c.args.self.now in
    absent_of_none grounds events place self is c.args.reply.now c.len-2.result (omega (arith, c.len-2.ensures, self.asking.expected.ok.0))
    (sym (start_any grounds events place self is c.args.reply.now c.deref.result.now c.len.result c.has_one_head.result c.deref.ensures.value
    (omega (arith, c.len.ensures, self.start.ok.0)) c.has_one_head.ensures) ∙ c.if-has_one_head.false)
    (sym (past_any grounds events place self is c.args.reply.now c.deref-2.result.now c.has_one_head-2.result c.deref-2.ensures.value c.has_one_head-2.ensures)
    ∙ c.if-has_one_head-2.false)
