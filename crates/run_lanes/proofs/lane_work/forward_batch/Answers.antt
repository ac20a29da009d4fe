use Rattle.run_lanes.proofs.Batches.{cut_batch, listed_batch}
use Rattle.run_lanes.proofs.lane_work.forward_batch.Goals as goal

pub forward_frames-requires : goal.forward_frames-requires
forward_frames-requires g c =
    let job = c.args.job.now in
    listed_batch job.settings.batch c.args.batch job.frames c.in-Listed.list c.listed_frames-frames.result.now c.in-Listed.is c.listed_frames-frames.ensures

pub forward_frames-requires-in-Ok : goal.forward_frames-requires-in-Ok
forward_frames-requires-in-Ok g c =
    let job = c.args.job.now in
    cut_batch job.settings.batch c.args.batch job.frames c.in-Cut.batches c.in-Ok.frames.items c.deref.result.now job.cut c.in-Cut.is c.in-Ok.ensures c.deref.ensures.value
