-- The entry to use, as far as a walk has come.
use Rattle.std.specs.Prelude.{◌≡◌, ◌<◌, ℕ, Bool, true, false, ◌&&◌, List, Option, Some, None, if◌then◌else◌, nat_lt}
use Rattle.vlan_rule.specs.Choice.{entry_at, is_before, rank_at}

-- the rank and the place of the entry that is chosen of the first n
pub record IsLeast (test : List ℕ → Bool) (entries : List (List ℕ)) (n : ℕ) (best : ℕ × ℕ) : Type 0 where
  pub in_range : best.1 < n
  pub rank : best.0 ≡ rank_at entries best.1
  pub passes : test (entry_at entries best.1) ≡ true
  pub least : (j : ℕ) → j < n → test (entry_at entries j) ≡ true → is_before entries j best.1 ≡ false

-- the same, where there may be none
abbrev pub IsBest : (List ℕ → Bool) → List (List ℕ) → ℕ → Option (ℕ × ℕ) → Type 0
IsBest test entries n None = (j : ℕ) → j < n → test (entry_at entries j) ≡ false
IsBest test entries n (Some best) = IsLeast test entries n best

-- a rank is less than the best so far
abbrev pub is_less : ℕ → Option (ℕ × ℕ) → Bool
is_less rank None = true
is_less rank (Some best) = nat_lt rank best.0

-- the best so far, or what comes after it
abbrev pub better : Bool → ℕ → ℕ → Option (ℕ × ℕ) → Option (ℕ × ℕ)
better passes rank place best = if passes && is_less rank best then Some (rank, place) else best
