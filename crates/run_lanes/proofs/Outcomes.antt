-- What a job gives, by what its lanes did.
use Rattle.std.proofs.Common.{◌≡◌, ℕ, ◌⊎◌, List, length, true, subst}
use Rattle.std.specs.Prelude.{Result, IfOk}
use Rattle.std.specs.List.{AllZip}
use Rattle.omci_msg.specs.declared.Request.{Request}
use Rattle.mib_state.specs.After.{accepted}
use Rattle.plan_publish.specs.declared.lane.Lane.{Lane}
use Rattle.run_lanes.specs.declared.fault.LaneFault.{LaneFault}
use Rattle.run_lanes.specs.declared.job.Job.{Job}
use Rattle.run_lanes.specs.declared.settling.Done.{Done}
use Rattle.run_lanes.specs.declared.settling.Settled.{Settled}
use Rattle.run_lanes.specs.Frames.{frames_in}
use Rattle.run_lanes.specs.Run.{batches_in}
use Rattle.run_lanes.specs.Work.{Did}
use Rattle.run_lanes.specs.Settling.{AllAreFull, IsSettled, SomeLaneIsFull}
use Rattle.run_lanes.specs.Outcome.{IsRunOf, SomeOutcomePasses}
use Rattle.run_lanes.proofs.Running.{AreNumbered, run_of, passes_of}
use Rattle.run_lanes.proofs.Zips.{ok_then}

module _ (told asked : List Request) (job : Job) (learnt : ℕ) (ls : List Lane) (ds : List Done) (numbers : AreNumbered job.settings.lanes learnt ls)
    (did : AllZip (Did job.settings (frames_in job.frames)) ls ds) (all : told ≡ accepted asked) (first : job.settings.after ≡ true → learnt ≡ length (accepted asked)) where
  pub run_given : (r : Result Settled LaneFault) → IfOk r (IsSettled told ds job.count) → IfOk r (IsRunOf asked job)
  run_given r given = ok_then r (IsSettled told ds job.count) (IsRunOf asked job) given (λ settled i.
      let n = batches_in job.settings.batch (length (frames_in job.frames)) in
      let whole : IsSettled (accepted asked) ds n settled = subst (λ (l : List Request). IsSettled l ds n settled) all (subst (λ (k : ℕ). IsSettled told ds k settled) job.counted i) in
      record { accepted_is = whole.accepted_is; run = run_of (accepted asked) job.settings (frames_in job.frames) learnt ls ds numbers did first settled whole })

  pub passes_given : SomeLaneIsFull told ds ⊎ AllAreFull told ds job.count → SomeOutcomePasses asked job
  passes_given full =
      let F : List Request → ℕ → Type 0 = λ l k. SomeLaneIsFull l ds ⊎ AllAreFull l ds k in
      let n = batches_in job.settings.batch (length (frames_in job.frames)) in
      passes_of (accepted asked) job.settings (frames_in job.frames) learnt ls ds numbers did first (subst (λ (l : List Request). F l n) all (subst (λ (k : ℕ). F told k) job.counted full))
