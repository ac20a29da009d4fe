use Rattle.std.proofs.Common.{arith, subst, sym}
use Rattle.run_lanes.specs.Frames.{frames_in}
use Rattle.run_lanes.specs.Work.{Did, IsOut}
use Rattle.capture_pieces.proofs.Files.{ok_both}
use Rattle.run_lanes.proofs.Zips.{zip_by_index}
use Rattle.run_lanes.proofs.threads.lanes_work.Goals as goal

pub map_vec-requires-after_bounds : goal.map_vec-requires-after_bounds
map_vec-requires-after_bounds g c κs κt = λ i x lt is. subst IsOut (sym is) (c.requires i x lt)

pub returns : goal.returns
returns g c =
    ok_both c.map_vec.result _ _ _ c.map_vec.ensures.len c.map_vec.ensures.each (λ v len each.
    zip_by_index (Did c.args.job.now.settings (frames_in c.args.job.now.frames)) c.args.lanes.items v.items (omega arith)
    (λ i d lt. let k = (each i d lt).1 in (k.job, k.job_read, k.call.met)))
