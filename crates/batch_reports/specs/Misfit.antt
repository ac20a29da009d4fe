-- What is wrong with items that can't be put in the order of their numbers, in the words of the list.
use Rattle.std.specs.Prelude.{◌≡◌, ◌≢◌, ◌<◌, ◌≤◌, ◌++◌, ℕ, List, ◌∷◌, Some, slice_get}
use Rattle.std.specs.List.{Contains}
use Rattle.batch_reports.specs.declared.batch.Report.{Report}
use Rattle.batch_reports.specs.declared.batch.Tally.{Tally}
use Rattle.batch_reports.specs.declared.fault.GatherFault.{GatherFault}
use Rattle.batch_reports.specs.declared.fault.GatherFault.TheVariants.{Double, Stranger, Missing, NoMemory, CountFull}
use Rattle.batch_reports.specs.Gathering.{misfit, misplaced}

-- each item has a place of its own: its number is under count, and no earlier one has it
pub record HavePlaces {X : Type 0} (number : X → ℕ) (count : ℕ) (items : List X) : Type 0 where
  pub under : (x : X) → Contains items x → number x < count
  pub apart : (j k : ℕ) (x y : X) → j < k → slice_get items j ≡ Some x → slice_get items k ≡ Some y → number x ≢ number y

-- an item stands behind earlier ones, each of which has a place of its own
pub record StandsBehind {X : Type 0} (number : X → ℕ) (count : ℕ) (given : List X) (x : X) : Type 0 where
  pub earlier : List X
  pub later : List X
  pub list : given ≡ earlier ++ x ∷ later
  pub placed : HavePlaces number count earlier

-- the fault names the number of the first item in the list that has no place of its own, since it is too great or was there before;
-- or, where each has a place, the least number under count that none has
abbrev pub IsMisfit : {X : Type 0} → (X → ℕ) → ℕ → List X → GatherFault → Type 0
IsMisfit {X} number count given (Stranger n) = (x : X) × StandsBehind number count given x × (number x ≡ n) × (count ≤ n)
IsMisfit {X} number count given (Double n) =
    (x : X) × (s : StandsBehind number count given x) × (number x ≡ n) × (n < count) × (y : X) × Contains s.earlier y × (number y ≡ n)
IsMisfit {X} number count given (Missing n) =
    HavePlaces number count given × (n < count) × ((x : X) → Contains given x → number x ≢ n)
    × ((k : ℕ) → k < n → (x : X) × Contains given x × (number x ≡ k))
IsMisfit number count given NoMemory = ⊥
IsMisfit number count given CountFull = ⊥

-- what is computed of reports, and of tallies, is that
abbrev pub ReportsMisfit : Type 0
ReportsMisfit = (count : ℕ) (given : List Report) (fault : GatherFault) → misfit count given ≡ Some fault → IsMisfit (λ (r : Report). r.batch) count given fault

abbrev pub TalliesMisfit : Type 0
TalliesMisfit = (count : ℕ) (given : List Tally) (fault : GatherFault) → misplaced (λ (t : Tally). t.batch) count given ≡ Some fault → IsMisfit (λ (t : Tally). t.batch) count given fault
