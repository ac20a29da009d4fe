use Rattle.std.specs.Prelude.{All}
use Rattle.std.proofs.Crossing.{crosses}
use denote.Param.Send.{sendable}
use Rattle.run_lanes.specs.Work.{IsOut}
use Rattle.run_lanes.proofs.Zips.{same_some}
use Rattle.run_lanes.proofs.threads.work_at_once.Goals as goal

pub join_mut-requires-after_bounds : goal.join_mut-requires-after_bounds
join_mut-requires-after_bounds g c κs κt =
    (((λ x e. same_some c.args.lanes x (λ v. All IsOut v.items) e c.requires), (search (sendable, crosses) depth 40, search (sendable, crosses) depth 40)), tt)
