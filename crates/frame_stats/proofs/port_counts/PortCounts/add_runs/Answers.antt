use Rattle.std.proofs.Common.{get_or, arith, refl}
use Rattle.frame_stats.specs.Ports.{no_run}
use Rattle.frame_stats.proofs.RunSums.{part_of_runs}
use Rattle.frame_stats.proofs.port_counts.PortCounts.add_runs.Goals as goal

pub add-requires : goal.add-requires
add-requires c =
    let run = get_or c.args.runs.now c.loop-run.run-index no_run in
    let part = part_of_runs run.port c.args.runs.now c.loop-run.run-index no_run c.loop-run-test.true refl in
    omega (arith, c.loop-run.invariant run.port, part, c.requires run.port)
