use Rattle.std.proofs.Common.{◌∙◌, Bool, Decides, sym, subst, arith}
use Rattle.bench_reply.specs.Kept.{IsExpected}
use Rattle.bench_reply.specs.Replies.{IsReplyTo, Wanted, is_reply}
use Rattle.bench_reply.specs.declared.expected.Expected.{Expected}
use Rattle.bench_answers.proofs.Finding.{none_found, right_here, right_later}
use Rattle.bench_answers.proofs.search.first_right.Goals as goal

pub returns-then-is_reply_to : goal.returns-then-is_reply_to
returns-then-is_reply_to c = λ modelled requests is.
    sym (right_here modelled requests c.args.expected.now c.loop-number.number _ is c.loop-number-test.true c.args.reply.now c.is_reply_to.result (subst (λ (e : Expected). (modelled : Bool) (w : Wanted) → IsExpected modelled w e → Decides c.is_reply_to.result (IsReplyTo modelled w c.args.reply.now)) c.index-expected-number.is c.is_reply_to.ensures) c.if-is_reply_to.true)
    ∙ c.loop-number.invariant modelled requests is

pub loop-number-preserved : goal.loop-number-preserved
loop-number-preserved c = λ modelled requests is.
    sym (right_later modelled requests c.args.expected.now c.loop-number.number _ is c.loop-number-test.true c.args.reply.now c.is_reply_to.result (subst (λ (e : Expected). (modelled : Bool) (w : Wanted) → IsExpected modelled w e → Decides c.is_reply_to.result (IsReplyTo modelled w c.args.reply.now)) c.index-expected-number.is c.is_reply_to.ensures) c.if-is_reply_to.false)
    ∙ c.loop-number.invariant modelled requests is

pub returns : goal.returns
returns c = λ modelled requests is.
    sym (none_found (λ w. is_reply modelled w c.args.reply.now) requests c.loop-number.number (omega (arith, c.loop-number-test.false, is.count)))
    ∙ c.loop-number.invariant modelled requests is
