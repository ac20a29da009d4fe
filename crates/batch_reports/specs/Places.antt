-- A place for each number, and items put there.
use Rattle.std.specs.Prelude.{◌≡◌, ◌++◌, ◌<◌, ◌≤◌, ◌⊎◌, ℕ, List, ◌∷◌, length, map, Option, Some, None, slice_index_or, is_some, true, count_by}
use Rattle.std.specs.List.{Contains}
use Rattle.batch_reports.specs.declared.fault.GatherFault.{GatherFault}
use Rattle.batch_reports.specs.declared.fault.GatherFault.TheVariants.{Double, Stranger, Missing}
use Rattle.batch_reports.specs.Gathering.{misplaced, misplaced_behind}

-- these items, and no others, are in the places of their numbers
pub record Filled {X : Type 0} (number : X → ℕ) (count : ℕ) (given : List X) (slots : List (Option X)) : Type 0 where
  pub len : length slots ≡ count
  pub many : count_by is_some slots ≡ length given
  pub placed : (x : X) → Contains given x → slice_index_or slots (number x) None ≡ Some x
  pub found : (k : ℕ) (x : X) → slice_index_or slots k None ≡ Some x → Contains given x × (number x ≡ k)

-- and nothing is wrong with them so far
pub record Fits {X : Type 0} (number : X → ℕ) (count : ℕ) (given : List X) (slots : List (Option X)) : Type 0 where
  pub filled : Filled number count given slots
  pub so_far : (rest : List X) → misplaced number count (given ++ rest) ≡ misplaced_behind number count given rest

-- why an item of this number has no place
abbrev pub HasNoPlace : {X : Type 0} → ℕ → List (Option X) → GatherFault → Type 0
HasNoPlace number slots fault = ((fault ≡ Stranger number) × (length slots ≤ number)) ⊎ ((fault ≡ Double number) × (number < length slots) × (is_some (slice_index_or slots number None) ≡ true))

-- the first place that is free, behind places that are taken
abbrev pub IsFirstFree : {X : Type 0} → List (Option X) → GatherFault → Type 0
IsFirstFree {X} slots fault = (taken : List X) × (rest : List (Option X)) × (fault ≡ Missing (length taken)) × (slots ≡ map Some taken ++ None ∷ rest)
