use Rattle.std.proofs.Common.{◌<◌, length, get_or, arith, rules, refl}
use Rattle.frame_stats.specs.Ports.{no_run}
use Rattle.frame_stats.proofs.RunSums.{part_of_runs}
use Rattle.frame_stats.proofs.port_counts.PortCounts.begin_run.Goals as goal

pub add_frames-requires : goal.add_frames-requires
add_frames-requires c =
    let inside : c.place_of-place.result < length c.args.self.now.runs = search rules in
    let run = get_or c.args.self.now.runs c.place_of-place.result no_run in
    let part = part_of_runs run.port c.args.self.now.runs c.place_of-place.result no_run inside refl in
    omega (arith, part, c.args.self.now.fits run.port)

pub returns-in_default-clause-memory : goal.returns-in_default-clause-memory
returns-in_default-clause-memory c =
    let inside : c.place_of-place.result < length c.args.self.now.runs = search rules in
    let run = get_or c.args.self.now.runs c.place_of-place.result no_run in
    let part = part_of_runs run.port c.args.self.now.runs c.place_of-place.result no_run inside refl in
    let frames : 0 < run.frames = c.in_default.ensures.some in
    (run.port, omega (arith, part, frames))
