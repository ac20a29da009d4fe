-- The walk over records, and where the batches among them begin.
use Rattle.std.specs.Prelude.{◌≡◌, ◌≤◌, ◌⊎◌, ℕ, ◌+◌, ◌-◌, ◌*◌, List, Option, Some, None, length, drop, slice_get}
use Rattle.capture.specs.declared.fault.CaptureFault.{CaptureFault}
use Rattle.capture.specs.declared.order.Order.{Order}
use Rattle.capture.specs.Records.{fault_from, first_fault, frames_in}

-- the first fault of records, the first of which has this number
abbrev pub fault_at : Order → ℕ → List ℕ → Option CaptureFault
fault_at order n bytes = fault_from (length bytes) order n bytes

-- From a record of one number on those before another were passed, or all; the next one has a third.
pub record Passed (order : Order) (first end : ℕ) (all : List ℕ) (next : ℕ) (left : List ℕ) : Type 0 where
  pub fault : fault_at order next left ≡ fault_at order first all
  pub frames : frames_in order left ≡ drop (next - first) (frames_in order all)
  pub counted : length (frames_in order all) + first ≡ length (frames_in order left) + next
  pub shorter : length left + next ≤ length all + first
  pub begun : first ≤ next
  pub at_most : next ≤ end
  pub enough : (length left ≡ 0) ⊎ (next ≡ end)
  pub few : next ≤ 4294967295

-- from these on the records are those of a batch and of the later ones
abbrev pub AreStarts : Order → ℕ → List (List ℕ) → List (List ℕ) → Type 0
AreStarts order size frames starts = (k : ℕ) (start : List ℕ) → slice_get starts k ≡ Some start → frames_in order start ≡ drop (k * size) frames

-- all records are whole, there are so many, and their batches begin there
pub record IsCut (order : Order) (size : ℕ) (all : List ℕ) (starts : List (List ℕ)) (count : ℕ) : Type 0 where
  pub whole : first_fault order all ≡ None
  pub begin : AreStarts order size (frames_in order all) starts
  pub counted : length (frames_in order all) ≡ count
  pub enough : count ≤ length starts * size
  pub few : count ≤ 4294967295
