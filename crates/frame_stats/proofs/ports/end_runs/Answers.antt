use Rattle.std.proofs.Common.{get_or, arith, refl}
use Rattle.frame_stats.specs.Ports.{no_run}
use Rattle.frame_stats.proofs.RunSums.{part_of_runs}
use Rattle.frame_stats.proofs.ports.end_runs.Goals as goal

pub add_frames-requires : goal.add_frames-requires
add_frames-requires c =
    let run = get_or c.args.runs.now c.loop-run.run-index no_run in
    let part = part_of_runs run.port c.args.runs.now c.loop-run.run-index no_run c.loop-run-test.true refl in
    omega (arith, c.loop-run.invariant.added run.port, part, c.requires run.port)
