-- What is kept of the events before a place, so that each is looked at once.
use Rattle.std.specs.Prelude.{◌≡◌, ◌<◌, ◌≤◌, ◌⊎◌, ℕ, if◌then◌else◌, true, false, List, Option, Some, None, length, slice_get, take}
use Rattle.bench_history.specs.History.{frames_in, has_ended, is_end_of}
use Rattle.bench_history.specs.declared.event.Event.{Event}
use Rattle.bench_history.specs.declared.event.Event.TheVariants.{Entered}
use Rattle.bench_history.specs.declared.extent.Extent.{Extent}
use Rattle.bench_sight.specs.Sight.{is_enough}
use Rattle.bench_answers.specs.Ground.{Ground}
use Rattle.bench_answers.specs.Asked.{base}
use Rattle.bench_answers.specs.Kept.{IsAnswersOf}
use Rattle.bench_answers.specs.Windows.{least_behind, most_behind}
use Rattle.bench_judge.specs.Terms.{Terms, ground_in}
use Rattle.bench_judge.specs.Admitted.{IsAdmitted}
use Rattle.bench_judge.specs.declared.frame.Frame.{Frame}
use Rattle.bench_judge.specs.declared.scene.Scene.{Scene}

-- ---- frames

-- a frame that the event at a place ends; one of which too little is known stays open
abbrev pub ended_by : ℕ → ℕ → Frame → Frame
ended_by place most frame = if frame.is_enough then record frame { ended = Some place; most = most } else frame

-- a frame of a number was ended by the event at a place
pub record IsEndedAt (grounds : Ground) (events : List Event) (place n : ℕ) (frame : Frame) (end : ℕ) : Type 0 where
  pub within : end < place
  pub later : frame.sent < end
  pub seen : Event
  pub at : slice_get events end ≡ Some seen
  pub is_end : is_end_of n seen ≡ true
  pub enough : frame.is_enough ≡ true
  pub most : frame.most ≡ most_behind grounds (take end events)

-- the same, or that it has not ended before a place or isn't judged, and has no greatest version yet
abbrev pub IsEndOf : Ground → List Event → ℕ → ℕ → Frame → Option ℕ → Type 0
IsEndOf grounds events place n frame (Some end) = IsEndedAt grounds events place n frame end
IsEndOf grounds events place n frame None = ((frame.is_enough ≡ false) ⊎ (has_ended n (take place events) ≡ false)) × (frame.most ≡ 0)

-- what is kept of the frame of a number that was sent before a place
pub record IsFrameOf (grounds : Ground) (events : List Event) (place n : ℕ) (frame : Frame) : Type 0 where
  pub extent : Extent
  pub bytes : List ℕ
  pub entered : slice_get events frame.sent ≡ Some (Entered frame.port extent bytes)
  pub enough : frame.is_enough ≡ is_enough extent bytes
  pub within : frame.sent < place
  pub number : frames_in (take frame.sent events) ≡ n
  pub least : frame.least ≡ least_behind grounds (take frame.sent events)
  pub end : IsEndOf grounds events place n frame frame.ended

-- what is kept of the frames that were sent before a place, by their numbers; no other has ended
pub record AreFramesOf (grounds : Ground) (events : List Event) (place : ℕ) (frames : List Frame) : Type 0 where
  pub count : length frames ≡ frames_in (take place events)
  pub each : (n : ℕ) (frame : Frame) → slice_get frames n ≡ Some frame → IsFrameOf grounds events place n frame
  pub unsent : (n : ℕ) → length frames ≤ n → has_ended n (take place events) ≡ false

-- ---- all

-- each event before a place is admitted
abbrev pub AreAdmittedUpTo : Terms → List Event → ℕ → Type 0
AreAdmittedUpTo terms events place =
    (i : ℕ) (event : Event) → i < place → slice_get events i ≡ Some event → IsAdmitted terms (take i events) event

-- what is kept of the events before a place
pub record IsScene (terms : Terms) (events : List Event) (place : ℕ) (scene : Scene) : Type 0 where
  pub answers : IsAnswersOf (ground_in terms) events place scene.answers
  pub base : scene.base ≡ base (ground_in terms)
  pub frames : AreFramesOf (ground_in terms) events place scene.frames.items
  pub admitted : AreAdmittedUpTo terms events place
