-- Frames of which one left, where it can't be seen which.
use Rattle.std.specs.Prelude.{◌≡◌, ◌≤◌, ◌⊎◌, ℕ, Bool, false, List, Option, Some, None, Contains, length, slice_get, take}
use Rattle.omci_msg.specs.declared.request.Request.{Request}
use Rattle.mib_state.specs.Entities.{Entities}
use Rattle.mib_state.specs.After.{after}
use Rattle.frame_meaning.specs.Meaning.{meaning}
use Rattle.bench_history.specs.Among.{OneOf}
use Rattle.bench_history.specs.History.{frames_in}
use Rattle.bench_history.specs.declared.event.Event.{Event}
use Rattle.bench_history.specs.declared.event.Event.TheVariants.{Entered, Left}
use Rattle.bench_history.specs.declared.extent.Extent.{Extent}
use Rattle.bench_history.specs.declared.gem.SeenGem.{SeenGem}
use Rattle.bench_sight.specs.Sight.{IsSeenAs, is_enough}
use Rattle.bench_answers.specs.Ground.{Ground}
use Rattle.bench_answers.specs.Asked.{version}
use Rattle.bench_answers.specs.Windows.{least_behind, most_behind}
use Rattle.bench_judge.specs.declared.doubt.Latest.{Latest}
use Rattle.bench_judge.specs.declared.frame.Frame.{Frame}

-- an event sends the frame of a number
pub record IsSent (events : List Event) (n : ℕ) : Type 0 where
  pub place : ℕ
  pub port : ℕ
  pub extent : Extent
  pub bytes : List ℕ
  pub entered : slice_get events place ≡ Some (Entered port extent bytes)
  pub number : n ≡ frames_in (take place events)

-- by a version of its window, which ends behind these events, a frame leaves as one was seen to
pub record LeavesBy (grounds : Ground) (padded : Bool) (events : List Event) (n : ℕ) (sent : IsSent events n) (seen : Event) (v : ℕ) : Type 0 where
  pub least : least_behind grounds (take sent.place events) ≤ v
  pub most : v ≤ most_behind grounds events
  pub shows : IsSeenAs padded (meaning (version grounds events v) sent.port sent.bytes) sent.extent seen

-- a frame may be the one that was seen to leave behind these events: too little is known of it, or it leaves so by some version
pub record MayBe (grounds : Ground) (padded : Bool) (events : List Event) (n : ℕ) (seen : Event) : Type 0 where
  pub sent : IsSent events n
  pub by : (is_enough sent.extent sent.bytes ≡ false) ⊎ ((v : ℕ) × LeavesBy grounds padded events n sent seen v)

-- one of the frames that a line names may be the one that it saw leave; each of them by itself, whatever other lines say of them
abbrev pub IsOneOf : Ground → Bool → List Event → SeenGem → Extent → OneOf → Type 0
IsOneOf grounds padded events gem extent among =
    (n : ℕ) × Contains among.numbers n × MayBe grounds padded events n (Left gem extent n among.frame)

-- ---- by frames as they are kept

-- by entities a frame leaves as one was seen to
pub record LeavesSo (padded : Bool) (events : List Event) (frame : Frame) (seen : Event) (e : Entities) : Type 0 where
  pub port : ℕ
  pub extent : Extent
  pub bytes : List ℕ
  pub entered : slice_get events frame.sent ≡ Some (Entered port extent bytes)
  pub shows : IsSeenAs padded (meaning e port bytes) extent seen

-- a frame may be the one that was seen, by a version and its entities
pub record MayBeAt (padded : Bool) (events : List Event) (frames : List Frame) (n : ℕ) (seen : Event) (v : ℕ) (e : Entities) : Type 0 where
  pub frame : Frame
  pub at : slice_get frames n ≡ Some frame
  pub by : (frame.is_enough ≡ false) ⊎ ((frame.least ≤ v) × LeavesSo padded events frame seen e)

-- one of several frames may
abbrev pub IsSomeAt : Bool → List Event → List Frame → SeenGem → Extent → OneOf → ℕ → Entities → Type 0
IsSomeAt padded events frames gem extent among v e =
    (n : ℕ) × Contains among.numbers n × MayBeAt padded events frames n (Left gem extent n among.frame) v e

-- by some version it may
abbrev pub IsSomeOf : Bool → List Event → List Request → List Frame → SeenGem → Extent → OneOf → Type 0
IsSomeOf padded events requests frames gem extent among =
    (v : ℕ) × (v ≤ length requests) × IsSomeAt padded events frames gem extent among v (after (take v requests))

-- what is kept of the last version that was asked for: the entities after so many of these requests
abbrev pub IsLatest : List Request → Option Latest → Type 0
IsLatest requests (Some latest) = (latest.applied ≤ length requests) × (latest.live ≡ after (take latest.applied requests))
IsLatest requests None = Unit {0}
