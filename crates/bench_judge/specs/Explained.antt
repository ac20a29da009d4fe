-- Which histories a right unit may have.
use Rattle.std.specs.Prelude.{◌≡◌, ◌<◌, ◌≤◌, ℕ, Bool, true, false, List, Some, slice_get, take}
use Rattle.frame_meaning.specs.Meaning.{meaning}
use Rattle.bench_history.specs.History.{frames_in, is_end_of}
use Rattle.bench_history.specs.declared.event.Event.{Event}
use Rattle.bench_history.specs.declared.event.Event.TheVariants.{Entered}
use Rattle.bench_history.specs.declared.extent.Extent.{Extent}
use Rattle.bench_sight.specs.Sight.{IsSeenAs, is_enough}
use Rattle.bench_answers.specs.Ground.{Ground}
use Rattle.bench_answers.specs.Asked.{version}
use Rattle.bench_answers.specs.Windows.{least_behind, most_behind}
use Rattle.bench_judge.specs.Terms.{Terms, ground_in}
use Rattle.bench_judge.specs.Admitted.{AreAdmitted}

-- a frame that has ended: which event sent it and which ended it, by their places, its number and port, what is known of it, and how it ended
pub record EndedFrame : Type 0 where
  pub sent : ℕ
  pub ended : ℕ
  pub number : ℕ
  pub port : ℕ
  pub extent : Extent
  pub bytes : List ℕ
  pub seen : Event

-- it is one of these events, and enough is known of it to judge it: of another frame nothing is said
pub record IsEnded (events : List Event) (f : EndedFrame) : Type 0 where
  pub entered : slice_get events f.sent ≡ Some (Entered f.port f.extent f.bytes)
  pub number : f.number ≡ frames_in (take f.sent events)
  pub later : f.sent < f.ended
  pub seen : slice_get events f.ended ≡ Some f.seen
  pub is_end : is_end_of f.number f.seen ≡ true
  pub enough : is_enough f.extent f.bytes ≡ true

-- a frame may have left by a version: it is in the frame's window, and what was seen is what its entities mean
pub record IsVersionOf (grounds : Ground) (padded : Bool) (events : List Event) (f : EndedFrame) (v : ℕ) : Type 0 where
  pub least : least_behind grounds (take f.sent events) ≤ v
  pub most : v ≤ most_behind grounds (take f.ended events)
  pub seen : IsSeenAs padded (meaning (version grounds events v) f.port f.bytes) f.extent f.seen

-- versions, by the numbers of frames: each ended frame may have its own, and, where order counts, of two of a port the one that
-- was sent first has no greater one
pub record IsChoice (grounds : Ground) (padded unordered : Bool) (events : List Event) (versions : ℕ → ℕ) : Type 0 where
  pub each : (f : EndedFrame) → IsEnded events f → IsVersionOf grounds padded events f (versions f.number)
  pub ordered : unordered ≡ false → (f g : EndedFrame) → IsEnded events f → IsEnded events g
      → f.port ≡ g.port → f.number < g.number → versions f.number ≤ versions g.number

-- events are explained
pub record IsExplained (terms : Terms) (events : List Event) : Type 0 where
  pub admitted : AreAdmitted terms events
  pub versions : ℕ → ℕ
  pub choice : IsChoice (ground_in terms) terms.settings.padded terms.settings.unordered events versions

-- versions of which each is the least that its frame has in any choice, and which are a choice
pub record IsLeastChoice (grounds : Ground) (padded unordered : Bool) (events : List Event) (versions : ℕ → ℕ) : Type 0 where
  pub choice : IsChoice grounds padded unordered events versions
  pub least : (other : ℕ → ℕ) → IsChoice grounds padded unordered events other
      → (f : EndedFrame) → IsEnded events f → versions f.number ≤ other f.number
