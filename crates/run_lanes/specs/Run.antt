-- What a run gives, and when it gives nothing because a count is full.
use Rattle.std.specs.Prelude.{◌≡◌, ◌≤◌, ℕ, ◌%◌, Bool, true, List, [], ◌∷◌, ◌++◌, length, map, take, drop, Some, slice_get, All}
use Rattle.std.specs.Int.{div_ceil}
use Rattle.omci_msg.specs.declared.Request.{Request}
use Rattle.mib_state.specs.After.{after}
use Rattle.frame_meaning.specs.declared.verdict.Verdict.{Verdict}
use Rattle.frame_meaning.specs.Meaning.{meaning}
use Rattle.frame_stats.specs.declared.counts.Counts.{Counts}
use Rattle.frame_stats.specs.Figures.{AreCountsOf, SomePasses}
use Rattle.run_settings.specs.declared.settings.RunSettings.{RunSettings}

-- how many batches of a size so many frames make: the last may be shorter
abbrev pub batches_in : ℕ → ℕ → ℕ
batches_in size frames = div_ceil frames size

-- the verdicts on frames that are cut in order into batches of a size, batch by batch: those of a version are what the frames
-- mean after so many of the requests
abbrev pub verdicts_from : List Request → ℕ → ℕ → List (List ℕ) → List ℕ → List Verdict
verdicts_from requests port size frames [] = []
verdicts_from requests port size frames (version ∷ versions) =
    map (meaning (after (take version requests)) port) (take size frames) ++ verdicts_from requests port size (drop size frames) versions

-- the batches may have these versions, where so many requests were accepted
pub record AreAdmissible (accepted lanes : ℕ) (applied_first : Bool) (versions : List ℕ) : Type 0 where
  pub at_most : All (λ v. v ≤ accepted) versions
  -- along a lane, which has each lanes-th batch
  pub never_fall : (j k v w : ℕ) → j ≤ k → j % lanes ≡ k % lanes → slice_get versions j ≡ Some v → slice_get versions k ≡ Some w → v ≤ w
  pub all_at_end : applied_first ≡ true → All (λ v. v ≡ accepted) versions

-- with these requests accepted, the batches of these frames had these versions, and their verdicts these counts
pub record IsRun (requests : List Request) (s : RunSettings) (frames : List (List ℕ)) (versions : List ℕ) (counts : Counts) : Type 0 where
  pub many : length versions ≡ batches_in s.batch (length frames)
  pub admissible : AreAdmissible (length requests) s.lanes s.after versions
  pub counts_are : AreCountsOf (verdicts_from requests s.port s.batch frames versions) counts

-- with these requests accepted, the batches of these frames may have versions by which a sum of all verdicts passes 64 bits
pub record SomeRunPasses (requests : List Request) (s : RunSettings) (frames : List (List ℕ)) : Type 0 where
  pub versions : List ℕ
  pub many : length versions ≡ batches_in s.batch (length frames)
  pub admissible : AreAdmissible (length requests) s.lanes s.after versions
  pub passes : SomePasses (verdicts_from requests s.port s.batch frames versions)
