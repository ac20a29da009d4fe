-- What a job gives, and when it gives nothing because a count is full.
use Rattle.std.specs.Prelude.{◌≡◌, List, length}
use Rattle.omci_msg.specs.declared.Request.{Request}
use Rattle.mib_state.specs.After.{accepted}
use Rattle.run_lanes.specs.declared.job.Job.{Job}
use Rattle.run_lanes.specs.declared.settling.Settled.{Settled}
use Rattle.run_lanes.specs.Frames.{frames_in}
use Rattle.run_lanes.specs.Run.{IsRun, SomeRunPasses}

-- so many of these requests are accepted, and with them the job's batches had these versions, and their verdicts these counts
pub record IsRunOf (requests : List Request) (job : Job) (settled : Settled) : Type 0 where
  pub accepted_is : settled.accepted ≡ length (accepted requests)
  pub run : IsRun (accepted requests) job.settings (frames_in job.frames) settled.versions.items settled.counts

-- with those accepted a sum of the job's verdicts passes 64 bits, by versions that its batches may have
abbrev pub SomeOutcomePasses : List Request → Job → Type 0
SomeOutcomePasses requests job = SomeRunPasses (accepted requests) job.settings (frames_in job.frames)
