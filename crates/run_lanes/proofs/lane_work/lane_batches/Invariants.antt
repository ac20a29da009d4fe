use Rattle.std.proofs.Common.{◌≡◌, ◌+◌, ◌*◌, ◌-◌, ◌^◌, Some, List, min, length}
use Rattle.omci_msg.specs.declared.Request.{Request}
use Rattle.plan_publish.specs.Lane.{number_of, held_by, learnt_by, IsSameLane}
use Rattle.run_lanes.specs.Frames.{frames_in}
use Rattle.run_lanes.specs.Work.{Worked}
use Rattle.run_lanes.proofs.lane_work.lane_batches.Given as goal

abbrev pub invariant-loop-k : goal.invariant-loop-k
invariant-loop-k g l = record {
  same : IsSameLane l.fn.lane l.lane;
  next : l.k ≡ min (number_of l.fn.lane + length l.tallies.items * l.job.settings.lanes) (2 ^ 32 - 1);
  worked : (held : List (List Request)) × (held_by l.lane ≡ Some held) × Worked l.job.settings (frames_in l.job.frames) held (learnt_by l.fn.lane) (number_of l.fn.lane) l.tallies.items;
}

abbrev pub decreases-loop-k : goal.decreases-loop-k
decreases-loop-k g l = l.job.count - l.k
