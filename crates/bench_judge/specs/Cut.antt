-- Frames as a front of the events shows them, and what the sweep of them says.
use Rattle.std.specs.Prelude.{◌≡◌, ◌≤◌, ◌+◌, ℕ, Bool, false, List, Option, Some, None, MatchOption, if◌then◌else◌, nat_lt, set, slice_get, slice_index, take, Vec}
use Rattle.std.specs.declared.alloc.Global.{Global}
use Rattle.omci_msg.specs.declared.request.Request.{Request}
use Rattle.bench_history.specs.declared.event.Event.{Event}
use Rattle.bench_answers.specs.Ground.{Ground}
use Rattle.bench_judge.specs.Terms.{Terms}
use Rattle.bench_judge.specs.Explained.{IsChoice, IsLeastChoice}
use Rattle.bench_judge.specs.Frames.{Fits, FitsLeast}
use Rattle.bench_judge.specs.Sweep.{AreLeast, NoneFit}
use Rattle.bench_judge.specs.Walk.{IsWalk}
use Rattle.bench_judge.specs.declared.frame.Frame.{Frame}
use Rattle.bench_judge.specs.declared.walk.Walk.{Walk}

-- an end that comes before a place
abbrev pub end_before : ℕ → Option ℕ → Option ℕ
end_before place None = None
end_before place (Some end) = if nat_lt end place then Some end else None

-- a frame with an end, or without one
abbrev pub with_end : Option ℕ → Frame → Frame
with_end (Some end) frame = record frame { ended = Some end }
with_end None frame = record frame { ended = None; most = 0 }

-- a frame as the events before a place show it: open where it ends there or behind
abbrev pub until : ℕ → Frame → Frame
until place frame = with_end (end_before place frame.ended) frame

-- numbers by their places, 0 past the end
abbrev pub by_number : Vec ℕ Global → ℕ → ℕ
by_number versions n = slice_index versions.items n

-- whether there are versions that fit together, and the least if so
abbrev pub IsSwept : Bool → Bool → List Event → List Request → List Frame → Option (Vec ℕ Global) → Type 0
IsSwept padded unordered events requests frames found =
    MatchOption found (NoneFit padded unordered events requests frames) (λ versions. AreLeast padded unordered events requests frames versions.items)

-- events have a choice
abbrev pub HasChoice : Ground → Bool → Bool → List Event → Type 0
HasChoice grounds padded unordered events = (versions : ℕ → ℕ) × IsChoice grounds padded unordered events versions

-- versions that fit, and the least of them where order counts
abbrev pub Suits : Bool → Bool → List Event → List Request → List Frame → (ℕ → ℕ) → Type 0
Suits padded unordered events requests frames versions =
    Fits padded unordered events requests frames versions × (unordered ≡ false → FitsLeast padded unordered events requests frames versions)

abbrev pub IsFitted : Bool → Bool → List Event → List Request → List Frame → Option (Vec ℕ Global) → Type 0
IsFitted padded unordered events requests frames found =
    MatchOption found (NoneFit padded unordered events requests frames) (λ versions. Suits padded unordered events requests frames (by_number versions))

-- a choice of events, and the least where order counts, or that they have none
abbrev pub IsGoodChoice : Ground → Bool → Bool → List Event → (ℕ → ℕ) → Type 0
IsGoodChoice grounds padded unordered events versions =
    IsChoice grounds padded unordered events versions × (unordered ≡ false → IsLeastChoice grounds padded unordered events versions)

abbrev pub IsChosen : Ground → Bool → Bool → List Event → Option (Vec ℕ Global) → Type 0
IsChosen grounds padded unordered events found =
    MatchOption found (¬ (HasChoice grounds padded unordered events)) (λ versions. IsGoodChoice grounds padded unordered events (by_number versions))

-- a walk, on any terms
abbrev pub IsSomeWalk : List Event → Walk → Type 0
IsSomeWalk events walk = (terms : Terms) × IsWalk terms events walk

-- the events before a place have a choice, and with the one there they have none
pub record IsTurn (grounds : Ground) (padded unordered : Bool) (events : List Event) (place : ℕ) : Type 0 where
  pub before : HasChoice grounds padded unordered (take place events)
  pub behind : ¬ (HasChoice grounds padded unordered (take (place + 1) events))

-- ---- a frame whose versions begin later

-- the frame of a number may have no version under one
abbrev pub RaisedAt : List Frame → ℕ → ℕ → List Frame → Type 0
RaisedAt frames n from raised =
    (frame : Frame) → slice_get frames n ≡ Some frame → raised ≡ set frames n (record frame { least = from })

-- the greatest version of the frame of a number in all that fit
pub record IsGreatestFit (padded unordered : Bool) (events : List Event) (requests : List Request) (frames : List Frame) (n v : ℕ) : Type 0 where
  pub versions : ℕ → ℕ
  pub fits : Fits padded unordered events requests frames versions
  pub has : versions n ≡ v
  pub greatest : (other : ℕ → ℕ) → Fits padded unordered events requests frames other → other n ≤ v
