-- What is known of events up to the first that isn't admitted.
use Rattle.std.specs.Prelude.{◌≡◌, ◌<◌, ◌≤◌, ℕ, true, List, Option, Some, length, slice_get, take}
use Rattle.bench_history.specs.History.{frames_in, is_sound, may_follow}
use Rattle.bench_history.specs.declared.event.Event.{Event}
use Rattle.bench_history.specs.declared.event.Event.TheVariants.{Entered}
use Rattle.bench_history.specs.declared.extent.Extent.{Extent}
use Rattle.bench_answers.specs.Ground.{Ground}
use Rattle.bench_answers.specs.Asked.{base, requests_of}
use Rattle.bench_answers.specs.Right.{IsNext}
use Rattle.bench_answers.specs.Standing.{compared}
use Rattle.bench_answers.specs.Windows.{least_behind}
use Rattle.bench_judge.specs.Terms.{Terms, ground_in}
use Rattle.bench_judge.specs.Admitted.{AreAdmitted, IsAdmitted}
use Rattle.bench_judge.specs.Counted.{AreKnown}
use Rattle.bench_judge.specs.Frames.{AreFrames, AreWithin}
use Rattle.bench_judge.specs.declared.frame.Frame.{Frame}
use Rattle.bench_judge.specs.declared.walk.Walk.{Walk}

-- each event may stand behind those before it
abbrev pub AreInOrder : List Event → Type 0
AreInOrder events = (i : ℕ) (event : Event) → slice_get events i ≡ Some event → may_follow (take i events) event ≡ true

-- the same but for doubt and for the end of the observation: each frame that ends is open, and no more replies are waited for than were seen
abbrev pub AreSound : List Event → Type 0
AreSound events = (i : ℕ) (event : Event) → slice_get events i ≡ Some event → is_sound (take i events) event ≡ true

-- an event behind others isn't admitted
pub record IsRefused (terms : Terms) (before : List Event) (event : Option Event) : Type 0 where
  pub seen : Event
  pub is : event ≡ Some seen
  pub refused : ¬ (IsAdmitted terms before seen)

-- what is kept of a frame that was sent
pub record IsKeptAsSent (grounds : Ground) (events : List Event) (n : ℕ) (frame : Frame) : Type 0 where
  pub extent : Extent
  pub bytes : List ℕ
  pub entered : slice_get events frame.sent ≡ Some (Entered frame.port extent bytes)
  pub number : n ≡ frames_in (take frame.sent events)
  pub least : frame.least ≡ least_behind grounds (take frame.sent events)

-- each frame was sent
abbrev pub AreSentBy : Ground → List Event → List Frame → Type 0
AreSentBy grounds events frames = (n : ℕ) (frame : Frame) → slice_get frames n ≡ Some frame → IsKeptAsSent grounds events n frame

-- what is known of the events up to the first that isn't admitted, or of all
pub record IsWalk (terms : Terms) (events : List Event) (walk : Walk) : Type 0 where
  pub within : walk.walked ≤ length events
  pub admitted : AreAdmitted terms (take walk.walked events)
  pub refused : walk.walked < length events → IsRefused terms (take walk.walked events) (slice_get events walk.walked)
  pub requests : walk.requests.items ≡ requests_of (ground_in terms) (take walk.walked events)
  pub frames : AreFrames (ground_in terms) (take walk.walked events) walk.frames.items
  pub sent : AreSentBy (ground_in terms) (take walk.walked events) walk.frames.items
  pub known : AreKnown (take walk.walked events) walk.frames.items
  pub count : length walk.frames.items ≡ frames_in (take walk.walked events)
  pub bounded : AreWithin walk.requests.items walk.frames.items
  pub base : walk.base ≡ base (ground_in terms)
  pub compared : walk.compared ≡ compared (ground_in terms) (take walk.walked events)
  pub awaited : IsNext (ground_in terms) (take walk.walked events) walk.awaited
