use Rattle.std.proofs.Common.{◌+◌, ◌<◌, ◌^◌, arith}
use Rattle.frame_stats.specs.Figures.{at_port}
use Rattle.frame_stats.proofs.RunSums.{runs_hold}
use Rattle.frame_stats.proofs.port_counts.PortCounts.runs_fit.Goals as goal

pub returns : goal.returns
returns c = λ q some.
    runs_hold (λ p. at_port c.args.self.now p + at_port c.args.more.now p < 2 ^ 64) q c.args.more.now.runs
    (λ k lt more. c.loop-run.invariant k (omega (arith, lt, c.loop-run-test.false, c.loop-run.auto.run-index-end)) more) some
