-- What lanes held, and what they made of frames.
use Rattle.std.specs.Prelude.{◌≡◌, ◌+◌, ◌*◌, ◌<◌, ◌≤◌, ℕ, List, ◌∷◌, Some, IfOk, IsErrOf, length, map, slice_get}
use Rattle.std.specs.List.{Contains}
use Rattle.omci_msg.specs.declared.Request.{Request}
use Rattle.mib_state.specs.Entities.{Entities}
use Rattle.mib_state.specs.After.{after}
use Rattle.frame_meaning.specs.declared.verdict.Verdict.{Verdict}
use Rattle.frame_meaning.specs.Meaning.{meaning}
use Rattle.plan_publish.specs.Requests.{StartsWith, StartsWithEach, version_of}
use Rattle.plan_publish.specs.declared.lane.Lane.{Lane}
use Rattle.plan_publish.specs.Lane.{number_of, held_by, learnt_by, IsSameLane}
use Rattle.frame_stats.specs.Figures.{AreCountsOf, SomePasses}
use Rattle.batch_reports.specs.declared.batch.Tally.{Tally}
use Rattle.capture_pieces.specs.Cut.{batch_of}
use Rattle.run_settings.specs.declared.settings.RunSettings.{RunSettings}
use Rattle.run_lanes.specs.declared.fault.LaneFault.TheVariants.{CountFull}
use Rattle.run_lanes.specs.declared.settling.Done.{Done}
use Rattle.run_lanes.specs.Run.{batches_in}

-- the lane is out
abbrev pub IsOut : Lane → Type 0
IsOut l = (held : List (List Request)) × (held_by l ≡ Some held)

-- the verdicts on frames that come in at a port, in order
abbrev pub verdicts_on : Entities → ℕ → List (List ℕ) → List Verdict
verdicts_on e port frames = map (meaning e port) frames

-- the tally has the counts of what these frames mean after these requests, and the number of the requests
pub record IsTally (port : ℕ) (frames : List (List ℕ)) (requests : List Request) (t : Tally) : Type 0 where
  pub version : t.version ≡ version_of requests
  pub counts : AreCountsOf (verdicts_on (after requests) port frames) t.counts

-- a list was held that begins with all that was held before and with what was learnt, and the tally is of it
pub record Forwarded (s : RunSettings) (frames : List (List ℕ)) (before : List (List Request)) (learnt : List Request) (now : List (List Request)) (batch : ℕ) (t : Tally) : Type 0 where
  pub requests : List Request
  pub held : now ≡ requests ∷ before
  pub begins_held : StartsWithEach requests before
  pub begins_learnt : StartsWith requests learnt
  pub number : t.batch ≡ batch
  pub tally : IsTally s.port (batch_of s.batch batch frames) requests t

-- a list was held that begins with what was learnt, and a sum of what the frames of a batch mean after it passes 64 bits
pub record BatchPasses (s : RunSettings) (frames : List (List ℕ)) (held : List (List Request)) (learnt : List Request) (batch : ℕ) : Type 0 where
  pub requests : List Request
  pub is_held : Contains held requests
  pub begins_learnt : StartsWith requests learnt
  pub passes : SomePasses (verdicts_on (after requests) s.port (batch_of s.batch batch frames))

-- a lane forwarded a batch: it held a list more, and the tally is of that
abbrev pub HasForwarded : RunSettings → List (List ℕ) → ℕ → Lane → Lane → Tally → Type 0
HasForwarded s frames batch old new t =
    (before : List (List Request)) × (now : List (List Request)) × (held_by old ≡ Some before) × (held_by new ≡ Some now) × Forwarded s frames before (learnt_by old) now batch t

-- a lane has held a list by which a sum of the batch passes 64 bits
abbrev pub HasPassed : RunSettings → List (List ℕ) → ℕ → Lane → Lane → Type 0
HasPassed s frames batch old new = (now : List (List Request)) × (held_by new ≡ Some now) × BatchPasses s frames now (learnt_by old) batch

-- tally i of a lane is of a list that it held, and of its i-th batch
pub record OfLane (s : RunSettings) (frames : List (List ℕ)) (held : List (List Request)) (learnt : List Request) (number i : ℕ) (t : Tally) : Type 0 where
  pub requests : List Request
  pub is_held : Contains held requests
  pub begins_learnt : StartsWith requests learnt
  pub batch : t.batch ≡ number + i * s.lanes
  pub tally : IsTally s.port (batch_of s.batch t.batch frames) requests t

-- each of a lane's tallies is of a list that it held, and their versions never fall
pub record Worked (s : RunSettings) (frames : List (List ℕ)) (held : List (List Request)) (learnt : List Request) (number : ℕ) (tallies : List Tally) : Type 0 where
  pub each : (i : ℕ) (t : Tally) → slice_get tallies i ≡ Some t → OfLane s frames held learnt number i t
  pub never_fall : (i j : ℕ) (q t : Tally) → i ≤ j → slice_get tallies i ≡ Some q → slice_get tallies j ≡ Some t → q.version ≤ t.version

-- so it is with some batch, of all lists that the lane held
pub record SomeBatchPasses (s : RunSettings) (frames : List (List ℕ)) (learnt : List Request) (lane : Lane) : Type 0 where
  pub held : List (List Request)
  pub held_is : held_by lane ≡ Some held
  pub batch : ℕ
  pub inside : batch < batches_in s.batch (length frames)
  pub passes : BatchPasses s frames held learnt batch

-- the lane is back, and has worked; or a count was full
pub record Did (s : RunSettings) (frames : List (List ℕ)) (lane : Lane) (d : Done) : Type 0 where
  pub same : IsSameLane lane d.lane
  pub worked : IfOk d.tallies (λ v. (held : List (List Request)) × (held_by d.lane ≡ Some held) × Worked s frames held (learnt_by lane) (number_of lane) v.items)
  pub full : IsErrOf d.tallies CountFull → SomeBatchPasses s frames (learnt_by lane) d.lane
