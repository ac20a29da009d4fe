use Rattle.std.proofs.Common.{arith}
use Rattle.bench_judge.proofs.Settling.{after_more}
use Rattle.bench_judge.proofs.fitting.advance.Goals as goal

pub loop-applied-preserved : goal.loop-applied-preserved
loop-applied-preserved c = record {
  within = omega (arith, c.if-applied-requests.true);
  live = λ first.
      after_more c.args.requests.now c.loop-applied.applied c.index-requests-applied.result c.loop-applied.live c.apply.new.self
      c.if-applied-requests.true c.index-requests-applied.is (c.loop-applied.invariant.live first) c.apply.ensures;
}
