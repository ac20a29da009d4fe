-- The frames before and behind one at its port, and the versions that they leave to it, as frames are kept.
use Rattle.std.specs.Prelude.{◌≡◌, ◌<◌, ◌≤◌, ◌+◌, ◌^◌, ℕ, Bool, true, false, List, Option, Some, None, is_some, max, min, slice_get}
use Rattle.omci_msg.specs.declared.request.Request.{Request}
use Rattle.bench_history.specs.declared.event.Event.{Event}
use Rattle.bench_judge.specs.Cut.{IsGreatestFit}
use Rattle.bench_judge.specs.declared.frame.Frame.{Frame}
use Rattle.bench_judge.specs.declared.judgement.Step.{Step}

-- the frame of a number has ended, at a port
pub record HasEndedAt (frames : List Frame) (at_port n : ℕ) : Type 0 where
  pub frame : Frame
  pub at : slice_get frames n ≡ Some frame
  pub ended : is_some frame.ended ≡ true
  pub port : frame.port ≡ at_port

-- the last ended frame of a port before a number
abbrev pub IsLastOf : List Frame → ℕ → ℕ → Option ℕ → Type 0
IsLastOf frames port number (Some n) = (n < number) × HasEndedAt frames port n × ((m : ℕ) → m < number → HasEndedAt frames port m → m ≤ n)
IsLastOf frames port number None = (m : ℕ) → m < number → ¬ (HasEndedAt frames port m)

-- the first behind it
abbrev pub IsFirstOf : List Frame → ℕ → ℕ → Option ℕ → Type 0
IsFirstOf frames port number (Some n) = (number < n) × HasEndedAt frames port n × ((m : ℕ) → number < m → HasEndedAt frames port m → n ≤ m)
IsFirstOf frames port number None = (m : ℕ) → number < m → ¬ (HasEndedAt frames port m)

-- the least version that is left to a frame: of its window, and of the frame before it
abbrev pub least_left : ℕ → (ℕ → ℕ) → Option ℕ → ℕ
least_left least versions (Some n) = max least (versions n)
least_left least versions None = least

abbrev pub IsLeastLeft : Bool → List Frame → (ℕ → ℕ) → ℕ → ℕ → ℕ → ℕ → Type 0
IsLeastLeft true frames versions port number least bound = bound ≡ least
IsLeastLeft false frames versions port number least bound =
    (before : Option ℕ) × IsLastOf frames port number before × (bound ≡ least_left least versions before)

-- the greatest: of its window, and of the frame behind it
abbrev pub IsGreatestLeft : Bool → List Event → List Request → List Frame → ℕ → ℕ → Option ℕ → Type 0
IsGreatestLeft padded events requests frames most bound (Some n) =
    (v : ℕ) × IsGreatestFit padded false events requests frames n v × (bound ≡ min most v)
IsGreatestLeft padded events requests frames most bound None = bound ≡ most

abbrev pub IsMostLeft : Bool → Bool → List Event → List Request → List Frame → ℕ → ℕ → ℕ → ℕ → Type 0
IsMostLeft padded true events requests frames port number most bound = bound ≡ most
IsMostLeft padded false events requests frames port number most bound =
    (behind : Option ℕ) × IsFirstOf frames port number behind × IsGreatestLeft padded events requests frames most bound behind

-- ---- steps

-- ended frames were sent by lines that have a number of 64 bits
abbrev pub AreSent : List Frame → Type 0
AreSent frames = (n : ℕ) (frame : Frame) → slice_get frames n ≡ Some frame → is_some frame.ended ≡ true → frame.sent + 1 < 2 ^ 64

-- an ended frame's version is greater than that of each before it at its port, and than 0
pub record RisesAt (frames : List Frame) (versions : ℕ → ℕ) (n : ℕ) (frame : Frame) : Type 0 where
  pub at : slice_get frames n ≡ Some frame
  pub ended : is_some frame.ended ≡ true
  pub some : 0 < versions n
  pub over : (m : ℕ) → m < n → HasEndedAt frames frame.port m → versions m < versions n

-- a step says so
pub record IsStepOf (frames : List Frame) (versions : ℕ → ℕ) (step : Step) : Type 0 where
  pub frame : Frame
  pub rises : RisesAt frames versions step.frame frame
  pub port : step.port ≡ frame.port
  pub version : step.version ≡ versions step.frame
  pub line : step.line ≡ frame.sent + 1

-- a frame has a step
pub record HasStep (steps : List Step) (n : ℕ) : Type 0 where
  pub place : ℕ
  pub step : Step
  pub at : slice_get steps place ≡ Some step
  pub frame : step.frame ≡ n

-- the steps of the frames under a number, in their order
pub record AreStepsUnder (frames : List Frame) (versions : ℕ → ℕ) (count : ℕ) (steps : List Step) : Type 0 where
  pub each : (k : ℕ) (step : Step) → slice_get steps k ≡ Some step → (step.frame < count) × IsStepOf frames versions step
  pub all : (n : ℕ) (frame : Frame) → n < count → RisesAt frames versions n frame → HasStep steps n
  pub ascend : (j k : ℕ) (one other : Step) → slice_get steps j ≡ Some one → slice_get steps k ≡ Some other → j < k → one.frame < other.frame
