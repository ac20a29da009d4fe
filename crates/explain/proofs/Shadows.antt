-- Entries that are tried before another and cover it.
use Rattle.std.proofs.Common.{◌≡◌, ◌≢◌, ◌==◌, ℕ, ◌<◌, ◌≤◌, Bool, true, false, ◌&&◌, ◌||◌, List, ◌∷◌, Some, None, length, arith, refl, sym, ◌∙◌, nat_lt, subst}
use Rattle.std.specs.Prelude.{find}
use Rattle.std.proofs.lemmas.Bool.{le-ltb, lt-ltb, true≢false}
use Rattle.std.proofs.lemmas.Bool.Decides.{nat_tests}
use Rattle.vlan_rule.specs.Choice.{choice, entry_at, is_before, IsChoice, IsChosen}
use Rattle.explain.specs.Order.{tried_order}
use Rattle.explain.specs.Covers.{is_shadowed_by, shadow_of}

-- the first that passes stands at the front, or behind one that doesn't pass
pub find_here : {X : Type 0} (p : X → Bool) (x : X) (rest : List X) → true ≡ p x → Some x ≡ find p (x ∷ rest)
find_here p x rest is = rw (← is) refl

pub find_there : {X : Type 0} (p : X → Bool) (x : X) (rest : List X) → false ≡ p x → find p rest ≡ find p (x ∷ rest)
find_there p x rest is = rw (← is) refl

-- the shadow of an entry, and of none
pub shadow_within : (entries : List (List ℕ)) (i : ℕ) → i < length entries → find (is_shadowed_by entries i) (tried_order entries) ≡ shadow_of entries i
unfolding shadow_of
shadow_within entries i within = let is = lt-ltb i (length entries) within in rw is refl

pub shadow_past : (entries : List (List ℕ)) (i : ℕ) → length entries ≤ i → None ≡ shadow_of entries i
unfolding shadow_of
shadow_past entries i past = let is = le-ltb i (length entries) past in rw is refl

-- a smaller rank, or the same at an earlier place
pub before_by_rank : (a b i j : ℕ) → a < b → (nat_lt a b || (a == b && nat_lt i j)) ≡ true
before_by_rank a b i j rank = grind (arith, nat_tests)

pub before_by_place : (a b i j : ℕ) → a ≡ b → i < j → (nat_lt a b || (a == b && nat_lt i j)) ≡ true
before_by_place a b i j rank place = grind (arith, nat_tests)

-- an entry that another covers and that is tried after it is used for no frame
pub never_used : (test : List ℕ → Bool) (entries : List (List ℕ)) (i j : ℕ) → IsChoice test entries (choice test entries) → j < length entries
    → is_before entries j i ≡ true → (test (entry_at entries i) ≡ true → test (entry_at entries j) ≡ true) → choice test entries ≢ Some i
never_used test entries i j is within before also used =
    let chosen : IsChosen test entries i = subst (IsChoice test entries) used is in
    true≢false (sym before ∙ chosen.least j within (also chosen.passes))
