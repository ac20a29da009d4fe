use Rattle.std.proofs.Common.{◌+◌, ◌<◌, ◌^◌, length, get_or, rules, refl}
use Rattle.frame_stats.proofs.RunSums.{part_of_runs}
use Rattle.frame_stats.proofs.port_counts.PortCounts.add.Goals as goal

-- the frames of a run are some of its port's
pub overflow_add-self : goal.overflow_add-self
overflow_add-self c =
    let inside : c.place_of-place.result < length c.args.self.now.runs = search rules in
    let run = get_or c.args.self.now.runs c.place_of-place.result (record { port = 0; frames = 0 }) in
    let part = part_of_runs run.port c.args.self.now.runs c.place_of-place.result (record { port = 0; frames = 0 }) inside refl in
    let fits : run.frames + c.args.frames < 2 ^ 64 = search rules in
    search rules
