use Rattle.std.proofs.Common.{◌∙◌, sym, arith}
use Rattle.bench_reply.specs.Replies.{has_head}
use Rattle.bench_answers.proofs.Finding.{head_here, head_later, none_found}
use Rattle.bench_answers.proofs.search.first_with_head.Goals as goal

pub returns-then-has_head_of : goal.returns-then-has_head_of
returns-then-has_head_of c = λ modelled requests is.
    sym (head_here modelled requests c.args.expected.now c.loop-number.number _ is c.loop-number-test.true c.args.reply.now c.has_head_of.result c.has_head_of.ensures c.if-has_head_of.true)
    ∙ c.loop-number.invariant modelled requests is

pub loop-number-preserved : goal.loop-number-preserved
loop-number-preserved c = λ modelled requests is.
    sym (head_later modelled requests c.args.expected.now c.loop-number.number _ is c.loop-number-test.true c.args.reply.now c.has_head_of.result c.has_head_of.ensures c.if-has_head_of.false)
    ∙ c.loop-number.invariant modelled requests is

pub returns : goal.returns
returns c = λ modelled requests is.
    sym (none_found (λ w. has_head w.reply c.args.reply.now) requests c.loop-number.number (omega (arith, c.loop-number-test.false, is.count)))
    ∙ c.loop-number.invariant modelled requests is
