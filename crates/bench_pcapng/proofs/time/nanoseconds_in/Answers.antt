-- Powers of ten that are divided by fit.
use Rattle.std.proofs.Common.{sym, arith, ◌≤◌}
use Rattle.bench_pcapng.proofs.Powers.{under_a_nanosecond, ticks_fit, some_ticks}
use Rattle.bench_pcapng.proofs.time.nanoseconds_in.Goals as goal

pub returns-then-resolution-gt-LEAST_TICK-clause-value : goal.returns-then-resolution-gt-LEAST_TICK-clause-value
returns-then-resolution-gt-LEAST_TICK-clause-value c =
    sym (under_a_nanosecond c.args.ticks c.args.resolution (omega arith) (omega arith) (omega arith))

pub pow-requires : goal.pow-requires
pow-requires c =
    let coarse : c.from.result ≤ 28 = omega arith in
    ticks_fit c.from.result coarse

pub nonzero_div-result : goal.nonzero_div-result
nonzero_div-result c = rw c.pow.ensures (some_ticks c.from.result)
