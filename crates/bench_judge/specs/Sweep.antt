-- The least versions of all frames, found once through all versions, and what is known on the way.
use Rattle.std.specs.Prelude.{◌≡◌, ◌≢◌, ◌<◌, ◌≤◌, ℕ, suc, Bool, true, false, List, Option, Some, None, is_some, length, slice_get, slice_index}
use Rattle.omci_msg.specs.declared.request.Request.{Request}
use Rattle.forward_plan.specs.Ports.{port_count}
use Rattle.bench_history.specs.declared.event.Event.{Event}
use Rattle.bench_judge.specs.Frames.{Fits, FitsLeast, MayHave}
use Rattle.bench_judge.specs.declared.frame.Frame.{Frame}
use Rattle.bench_judge.specs.declared.sweep.SweepState.{SweepState}

-- ---- what is found

-- one version for each frame: the least of those that may be had together, and 0 for one that is open
pub record AreLeast (padded unordered : Bool) (events : List Event) (requests : List Request) (frames : List Frame) (versions : List ℕ) : Type 0 where
  pub count : length versions ≡ length frames
  pub least : FitsLeast padded unordered events requests frames (slice_index versions)
  pub none : (n : ℕ) (frame : Frame) → slice_get frames n ≡ Some frame → is_some frame.ended ≡ false → slice_index versions n ≡ 0

-- no versions may be had together
abbrev pub NoneFit : Bool → Bool → List Event → List Request → List Frame → Type 0
NoneFit padded unordered events requests frames = (versions : ℕ → ℕ) → Fits padded unordered events requests frames versions → ⊥

-- ---- queues

-- whether the frame of a number has ended
abbrev pub is_ended : Option Frame → Bool
is_ended (Some frame) = is_some frame.ended
is_ended None = false

abbrev pub has_end : List Frame → ℕ → Bool
has_end frames n = is_ended (slice_get frames n)

-- the port of the frame of a number
abbrev pub port_in : Option Frame → ℕ
port_in (Some frame) = frame.port
port_in None = 0

abbrev pub port_at : List Frame → ℕ → ℕ
port_at frames n = port_in (slice_get frames n)

-- the frames of two numbers belong to one queue: that of their port, or, where order doesn't count, each to its own
abbrev pub IsOneQueue : Bool → List Frame → ℕ → ℕ → Type 0
IsOneQueue true frames m n = m ≡ n
IsOneQueue false frames m n = port_at frames m ≡ port_at frames n

-- each number of a frame leads to a greater one
abbrev pub AreAhead : List Frame → List ℕ → Type 0
AreAhead frames next = (n : ℕ) → n < length frames → n < slice_index next n

-- there is a link and a version for each frame, and links lead ahead
pub record IsWhole (frames : List Frame) (sweep : SweepState) : Type 0 where
  pub links : length sweep.next.items ≡ length frames
  pub versions : length sweep.versions.items ≡ length frames
  pub ahead : AreAhead frames sweep.next.items

-- each ended frame leads to the next one of its queue, or, where there is none, to no frame
pub record AreLinked (unordered : Bool) (frames : List Frame) (next : List ℕ) : Type 0 where
  pub ended : (n : ℕ) → has_end frames n ≡ true → slice_index next n < length frames → has_end frames (slice_index next n) ≡ true
  pub one : (n : ℕ) → has_end frames n ≡ true → slice_index next n < length frames → IsOneQueue unordered frames n (slice_index next n)
  pub none_between : (m n : ℕ) → has_end frames m ≡ true → has_end frames n ≡ true → IsOneQueue unordered frames m n → m < n
      → slice_index next m ≤ n

-- a frame stands in the queue of a slot, at its head or behind it
pub record IsCovered (unordered : Bool) (frames : List Frame) (waiting : List ℕ) (n : ℕ) : Type 0 where
  pub slot : ℕ
  pub within : slot < length waiting
  pub one : IsOneQueue unordered frames (slice_index waiting slot) n
  pub head : slice_index waiting slot ≤ n

-- a slot has the number of a frame at the head of its queue
pub record IsSlot (frames : List Frame) (waiting : List ℕ) (slot : ℕ) : Type 0 where
  pub within : slot < length waiting
  pub some : slice_index waiting slot < length frames

-- at the heads of queues, one for each slot, stand ended frames that aren't done, and all of these stand there or behind
pub record AreWaiting (unordered : Bool) (frames : List Frame) (waiting : List ℕ) (done : ℕ → Bool) : Type 0 where
  pub ended : (s : ℕ) → IsSlot frames waiting s → has_end frames (slice_index waiting s) ≡ true
  pub ahead : (s : ℕ) → IsSlot frames waiting s → done (slice_index waiting s) ≡ false
  pub covered : (n : ℕ) → has_end frames n ≡ true → done n ≡ false → IsCovered unordered frames waiting n
  pub apart : (s t : ℕ) → s ≢ t → IsSlot frames waiting s → IsSlot frames waiting t
      → IsOneQueue unordered frames (slice_index waiting s) (slice_index waiting t) → ⊥

-- ---- versions so far

-- of each frame that is done the version is the least that it may have, and those before it in its queue are done; others have none yet
pub record AreSettled (padded unordered : Bool) (events : List Event) (requests : List Request) (frames : List Frame) (v : ℕ) (done : ℕ → Bool) (versions : List ℕ) : Type 0 where
  pub ended : (n : ℕ) → done n ≡ true → has_end frames n ≡ true
  pub may : (n : ℕ) (frame : Frame) → done n ≡ true → slice_get frames n ≡ Some frame
      → MayHave padded events requests frame (slice_index versions n)
  pub so_far : (n : ℕ) → done n ≡ true → slice_index versions n ≤ v
  pub least : (other : ℕ → ℕ) → Fits padded unordered events requests frames other → (n : ℕ) → done n ≡ true → slice_index versions n ≤ other n
  pub front : (m n : ℕ) → done n ≡ true → has_end frames m ≡ true → IsOneQueue unordered frames m n → m < n → done m ≡ true
  pub ordered : (m n : ℕ) → done m ≡ true → done n ≡ true → IsOneQueue unordered frames m n → m < n
      → slice_index versions m ≤ slice_index versions n
  pub none : (n : ℕ) → done n ≡ false → slice_index versions n ≡ 0

-- the frames at the heads of queues have no version under this one, and those of the first slots, at which it was tried, not this one
-- either, but a greater one in their window
pub record AreTried (padded unordered : Bool) (events : List Event) (requests : List Request) (frames : List Frame) (v tried : ℕ) (waiting : List ℕ) : Type 0 where
  pub above : (other : ℕ → ℕ) → Fits padded unordered events requests frames other → (s : ℕ) → IsSlot frames waiting s
      → v ≤ other (slice_index waiting s)
  pub behind : (other : ℕ → ℕ) → Fits padded unordered events requests frames other → (s : ℕ) → IsSlot frames waiting s → s < tried
      → suc v ≤ other (slice_index waiting s)
  pub room : (s : ℕ) (frame : Frame) → IsSlot frames waiting s → s < tried → slice_get frames (slice_index waiting s) ≡ Some frame
      → suc v ≤ frame.most

-- the way so far: a version was tried at so many slots, and all before it at all
pub record IsSoFar (padded unordered : Bool) (events : List Event) (requests : List Request) (frames : List Frame) (v slots : ℕ) (sweep : SweepState) : Type 0 where
  pub done : ℕ → Bool
  pub linked : AreLinked unordered frames sweep.next.items
  pub waiting : AreWaiting unordered frames sweep.waiting.items done
  pub settled : AreSettled padded unordered events requests frames v done sweep.versions.items
  pub tried : AreTried padded unordered events requests frames v slots sweep.waiting.items

-- ---- queues that are built

-- each port has the last ended frame of it among the first n, if there is one
pub record AreTails (frames : List Frame) (n : ℕ) (tails : List ℕ) : Type 0 where
  pub ended : (p : ℕ) → p < port_count → slice_index tails p < length frames → has_end frames (slice_index tails p) ≡ true
  pub port : (p : ℕ) → p < port_count → slice_index tails p < length frames → port_at frames (slice_index tails p) ≡ p
  pub below : (p : ℕ) → p < port_count → slice_index tails p < length frames → slice_index tails p < n
  pub last : (m : ℕ) → m < n → has_end frames m ≡ true → m ≤ slice_index tails (port_at frames m)
  pub some : (m : ℕ) → m < n → has_end frames m ≡ true → slice_index tails (port_at frames m) < n

-- the first n frames stand in queues, and no other one
pub record AreQueued (unordered : Bool) (frames : List Frame) (n : ℕ) (next waiting : List ℕ) : Type 0 where
  pub ended : (k : ℕ) → k < n → has_end frames k ≡ true → slice_index next k < length frames → has_end frames (slice_index next k) ≡ true
  pub one : (k : ℕ) → k < n → has_end frames k ≡ true → slice_index next k < length frames → IsOneQueue unordered frames k (slice_index next k)
  pub none_between : (k m : ℕ) → m < n → has_end frames k ≡ true → has_end frames m ≡ true → IsOneQueue unordered frames k m → k < m
      → slice_index next k ≤ m
  pub untouched : (k : ℕ) → n ≤ k → k < length frames → length frames ≤ slice_index next k
  pub heads : (s : ℕ) → s < length waiting → slice_index waiting s < n
  pub heads_ended : (s : ℕ) → s < length waiting → has_end frames (slice_index waiting s) ≡ true
  pub covered : (k : ℕ) → k < n → has_end frames k ≡ true → IsCovered unordered frames waiting k
  pub apart : (s t : ℕ) → s ≢ t → s < length waiting → t < length waiting
      → IsOneQueue unordered frames (slice_index waiting s) (slice_index waiting t) → ⊥

-- the same, with the last frames of ports
pub record AreQueuedSoFar (unordered : Bool) (frames : List Frame) (n : ℕ) (tails : List ℕ) (sweep : SweepState) : Type 0 where
  pub of_ports : AreTails frames n tails
  pub queued : AreQueued unordered frames n sweep.next.items sweep.waiting.items
  pub ahead : AreAhead frames sweep.next.items
