-- Reports in the order of their batches.
use Rattle.std.specs.Prelude.{◌≡◌, ◌==◌, ◌+◌, ◌++◌, ◌≤◌, ◌^◌, ℕ, zero, suc, Bool, List, [], ◌∷◌, length, map, nat_lt, Option, Some, None, option_map, slice_get, if◌then◌else◌, ⊤}
use Rattle.std.specs.List.{Contains, list_any, flat_map, sum_by}
use Rattle.std.specs.List.Sorted.{IsPermutation}
use Rattle.frame_meaning.specs.declared.verdict.Verdict.{Verdict}
use Rattle.frame_stats.specs.declared.counts.Counts.{Counts}
use Rattle.frame_stats.specs.Figures.{Figure, counted, SomePasses}
use Rattle.batch_reports.specs.declared.batch.Report.{Report}
use Rattle.batch_reports.specs.declared.batch.Tally.{Tally}
use Rattle.batch_reports.specs.declared.fault.GatherFault.{GatherFault}
use Rattle.batch_reports.specs.declared.fault.GatherFault.TheVariants.{Double, Stranger, Missing, NoMemory, CountFull}

-- ---- what is gathered

-- these are the given items in the order of the numbers 0 to count - 1: one of each, and no other was given
pub record AreInOrder {X : Type 0} (number : X → ℕ) (count : ℕ) (given out : List X) : Type 0 where
  pub len : length out ≡ count
  pub none_lost : length given ≡ count
  pub placed : (x : X) → Contains given x → slice_get out (number x) ≡ Some x
  pub found : (k : ℕ) (x : X) → slice_get out k ≡ Some x → Contains given x × (number x ≡ k)

-- these are the given reports in the order of batches 0 to count - 1
abbrev pub IsGathered : ℕ → List Report → List Report → Type 0
IsGathered count given out = AreInOrder (λ (r : Report). r.batch) count given out

-- the verdicts of all batches
abbrev pub verdicts_of : List Report → List Verdict
verdicts_of reports = flat_map (λ (r : Report). r.verdicts.items) reports

-- these are the versions of the given tallies in the order of batches 0 to count - 1, and the sums of their counts
pub record AreVersionsOf (count : ℕ) (given : List Tally) (versions : List ℕ) (c : Counts) : Type 0 where
  pub out : List Tally
  pub in_order : AreInOrder (λ (t : Tally). t.batch) count given out
  pub versions_are : versions ≡ map (λ (t : Tally). t.version) out
  pub sums : (f : Figure) → counted c f ≡ sum_by (λ (t : Tally). counted t.counts f) out

-- a sum of the items' counts passes 64 bits
abbrev pub SumPasses : {X : Type 0} → (X → Counts) → List X → Type 0
SumPasses counts xs = (f : Figure) × (2 ^ 64 ≤ sum_by (λ x. counted (counts x) f) xs)

-- ---- what can't be gathered

-- an item has this number
abbrev pub has_number : {X : Type 0} → (X → ℕ) → ℕ → List X → Bool
has_number number n xs = list_any (λ x. number x == n) xs

-- the least of the numbers from k on, so many of them, that no item has
abbrev pub missing_from : {X : Type 0} → (X → ℕ) → ℕ → ℕ → List X → Option ℕ
missing_from number k zero xs = None
missing_from number k (suc more) xs = if has_number number k xs then missing_from number (k + 1) more xs else Some k

-- what is wrong with items that stand behind earlier ones, which have a place each: the first number that is at least count, or
-- that an earlier one had; else the least number that is missing
abbrev pub misplaced_behind : {X : Type 0} → (X → ℕ) → ℕ → List X → List X → Option GatherFault
misplaced_behind number count earlier [] = option_map Missing (missing_from number 0 count earlier)
misplaced_behind number count earlier (x ∷ rest) =
    if nat_lt (number x) count
    then (if has_number number (number x) earlier then Some (Double (number x)) else misplaced_behind number count (earlier ++ x ∷ []) rest)
    else Some (Stranger (number x))

-- what is wrong with items, as they stand in the list: nothing, where they have the numbers 0 to count - 1
abbrev pub misplaced : {X : Type 0} → (X → ℕ) → ℕ → List X → Option GatherFault
misplaced number count given = misplaced_behind number count [] given

-- what is wrong with reports
abbrev pub misfit : ℕ → List Report → Option GatherFault
misfit count reports = misplaced (λ (r : Report). r.batch) count reports

-- this is why items can't be put in order and counted, where some lists can't be counted. Want of memory may come before anything
-- is looked at
abbrev pub IsWhyNot : {X : Type 0} → (X → ℕ) → (List X → Type 0) → ℕ → List X → GatherFault → Type 0
IsWhyNot number full count given (Double n) = misplaced number count given ≡ Some (Double n)
IsWhyNot number full count given (Stranger n) = misplaced number count given ≡ Some (Stranger n)
IsWhyNot number full count given (Missing n) = misplaced number count given ≡ Some (Missing n)
IsWhyNot number full count given NoMemory = ⊤
IsWhyNot {X} number full count given CountFull = (misplaced number count given ≡ None) × (out : List X) × AreInOrder number count given out × full out

-- this is why these reports can't be gathered
abbrev pub IsWhy : ℕ → List Report → GatherFault → Type 0
IsWhy count given fault = IsWhyNot (λ (r : Report). r.batch) (λ out. SomePasses (verdicts_of out)) count given fault

-- and why these tallies can't be
abbrev pub IsWhyOfTallies : ℕ → List Tally → GatherFault → Type 0
IsWhyOfTallies count given fault = IsWhyNot (λ (t : Tally). t.batch) (SumPasses (λ (t : Tally). t.counts)) count given fault

-- ---- the order of arrival

-- a list that is gathered from reports is so from every order of them
abbrev pub SameInEveryOrder : Type 0
SameInEveryOrder = (count : ℕ) (given other out : List Report) → IsPermutation given other → IsGathered count given out → IsGathered count other out

-- and no other list is
abbrev pub GatheredOnce : Type 0
GatheredOnce = (count : ℕ) (given other one two : List Report) → IsPermutation given other → IsGathered count given one → IsGathered count other two → two ≡ one
