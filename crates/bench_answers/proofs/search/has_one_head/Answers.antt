use Rattle.std.proofs.Common.{◌+◌, sym, arith}
use Rattle.bench_reply.specs.Replies.{has_head}
use Rattle.bench_answers.proofs.Finding.{front_has, front_lacks, front_more, front_none}
use Rattle.bench_answers.proofs.search.has_one_head.Goals as goal

pub returns-then-has_head_of : goal.returns-then-has_head_of
returns-then-has_head_of c = λ modelled requests is.
    sym (front_more (λ w. has_head w.reply c.args.reply.now) requests (c.loop-number.number + 1) c.args.count
    (front_has modelled requests c.args.expected.now c.loop-number.number _ is (omega (arith, c.loop-number-test.true, c.min-number-end.ensures)) c.args.reply.now c.has_head_of.result c.has_head_of.ensures c.if-has_head_of.true)
    (omega (arith, c.loop-number-test.true, c.min-number-end.ensures)))

pub loop-number-preserved : goal.loop-number-preserved
loop-number-preserved c = λ modelled requests is.
    front_lacks modelled requests c.args.expected.now c.loop-number.number _ is (omega (arith, c.loop-number-test.true, c.min-number-end.ensures)) c.args.reply.now c.has_head_of.result c.has_head_of.ensures c.if-has_head_of.false
    (c.loop-number.invariant modelled requests is)

pub returns : goal.returns
returns c = λ modelled requests is.
    sym (front_none (λ w. has_head w.reply c.args.reply.now) requests c.loop-number.number c.args.count (c.loop-number.invariant modelled requests is)
    (omega (arith, c.loop-number-test.false, c.min-number-end.ensures, is.count)))
