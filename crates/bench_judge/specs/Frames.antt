-- The frames of a history as the judge keeps them, and versions for them.
use Rattle.std.specs.Prelude.{◌≡◌, ◌<◌, ◌≤◌, ℕ, Bool, true, false, List, Some, is_some, length, slice_get, take}
use Rattle.omci_msg.specs.declared.request.Request.{Request}
use Rattle.mib_state.specs.Entities.{Entities}
use Rattle.mib_state.specs.After.{after}
use Rattle.frame_meaning.specs.Meaning.{meaning}
use Rattle.bench_history.specs.declared.event.Event.{Event}
use Rattle.bench_history.specs.declared.event.Event.TheVariants.{Entered}
use Rattle.bench_history.specs.declared.extent.Extent.{Extent}
use Rattle.bench_sight.specs.Sight.{IsSeenAs}
use Rattle.bench_answers.specs.Ground.{Ground}
use Rattle.bench_answers.specs.Windows.{least_behind, most_behind}
use Rattle.bench_judge.specs.Explained.{EndedFrame, IsEnded}
use Rattle.bench_judge.specs.declared.frame.Frame.{Frame}

-- ---- the frames of events

-- what is kept of an ended frame
pub record IsKept (grounds : Ground) (events : List Event) (f : EndedFrame) (frame : Frame) : Type 0 where
  pub sent : frame.sent ≡ f.sent
  pub ended : frame.ended ≡ Some f.ended
  pub port : frame.port ≡ f.port
  pub least : frame.least ≡ least_behind grounds (take f.sent events)
  pub most : frame.most ≡ most_behind grounds (take f.ended events)

-- an ended frame is kept at its number
pub record IsKeptIn (grounds : Ground) (events : List Event) (frames : List Frame) (f : EndedFrame) : Type 0 where
  pub frame : Frame
  pub at : slice_get frames f.number ≡ Some frame
  pub kept : IsKept grounds events f frame

-- what is kept at a number as ended is that ended frame
pub record IsKeptOf (grounds : Ground) (events : List Event) (n : ℕ) (frame : Frame) : Type 0 where
  pub f : EndedFrame
  pub is : IsEnded events f
  pub number : f.number ≡ n
  pub kept : IsKept grounds events f frame

-- frames are those of events, by their numbers; of one that is open, not sent yet, or of which too little is known, nothing is said
pub record AreFrames (grounds : Ground) (events : List Event) (frames : List Frame) : Type 0 where
  pub each : (f : EndedFrame) → IsEnded events f → IsKeptIn grounds events frames f
  pub only : (n : ℕ) (frame : Frame) → slice_get frames n ≡ Some frame → is_some frame.ended ≡ true → IsKeptOf grounds events n frame

-- ---- versions for frames, whatever their windows

-- by entities a frame leaves or is dropped as it was seen to
pub record IsSeenBy (padded : Bool) (events : List Event) (frame : Frame) (e : Entities) : Type 0 where
  pub port : ℕ
  pub extent : Extent
  pub bytes : List ℕ
  pub entered : slice_get events frame.sent ≡ Some (Entered port extent bytes)
  pub end : ℕ
  pub ended : frame.ended ≡ Some end
  pub seen : Event
  pub at_end : slice_get events end ≡ Some seen
  pub shows : IsSeenAs padded (meaning e port bytes) extent seen

-- a frame may have left by a version
pub record MayHave (padded : Bool) (events : List Event) (requests : List Request) (frame : Frame) (v : ℕ) : Type 0 where
  pub least : frame.least ≤ v
  pub most : v ≤ frame.most
  pub seen : IsSeenBy padded events frame (after (take v requests))

-- versions, by the numbers of frames, that the ended ones may have together
pub record Fits (padded unordered : Bool) (events : List Event) (requests : List Request) (frames : List Frame) (versions : ℕ → ℕ) : Type 0 where
  pub each : (n : ℕ) (frame : Frame) → slice_get frames n ≡ Some frame → is_some frame.ended ≡ true
      → MayHave padded events requests frame (versions n)
  pub ordered : unordered ≡ false → (m n : ℕ) (one other : Frame) → slice_get frames m ≡ Some one → slice_get frames n ≡ Some other
      → is_some one.ended ≡ true → is_some other.ended ≡ true → one.port ≡ other.port → m < n → versions m ≤ versions n

-- the least of them
pub record FitsLeast (padded unordered : Bool) (events : List Event) (requests : List Request) (frames : List Frame) (versions : ℕ → ℕ) : Type 0 where
  pub fits : Fits padded unordered events requests frames versions
  pub least : (other : ℕ → ℕ) → Fits padded unordered events requests frames other
      → (n : ℕ) (frame : Frame) → slice_get frames n ≡ Some frame → is_some frame.ended ≡ true → versions n ≤ other n

-- no frame may have a version behind all requests
abbrev pub AreWithin : List Request → List Frame → Type 0
AreWithin requests frames = (n : ℕ) (frame : Frame) → slice_get frames n ≡ Some frame → frame.most ≤ length requests
