use Rattle.std.proofs.Common.{◌≡◌}
use Rattle.std.specs.Prelude.{Err}
use Rattle.run_lanes.specs.declared.fault.LaneFault.TheVariants.{CountFull}
use Rattle.run_lanes.proofs.run.run_job.Goals as goal
use Rattle.run_lanes.proofs.run.run_job.Goals.{then-job, else-job}

pub returns-clause-full : goal.returns-clause-full
returns-clause-full g c is =
    elim c.if-job.branch [
      | then-job w ↦ let same = w.outcome-is in let full : w.run_after-outcome.result ≡ Err CountFull = cc in w.run_after-outcome.ensures.full full
      | else-job w ↦ let same = w.outcome-is in let full : w.run_at_once-outcome.result ≡ Err CountFull = cc in w.run_at_once-outcome.ensures.full full
    ]
