-- The greatest of a number and others.
use Rattle.std.proofs.Common.{◌≡◌, ℕ, ◌<◌, ◌≤◌, max, List, [], ◌∷◌, ◌++◌, Contains, zero, suc, refl, sym, ap, ◌∙◌, arith, ⊎_elim, slice_index_or}
use Rattle.std.proofs.lemmas.List.Sums.{fold-append}
use Rattle.std.proofs.lemmas.List.Elements.{Contains-append_cases}
use Rattle.plan_publish.specs.Interleavings.{greatest}

pub none_in : (t : ℕ) → Contains [] t → ⊥
none_in t has = let less = has.1 in omega arith

pub only_one : (t u : ℕ) → Contains (t ∷ []) u → u ≡ t
only_one t u has = at_place has.0 has.1 has.2
  where
    at_place : (k : ℕ) → k < 1 → slice_index_or (t ∷ []) k u ≡ u → u ≡ t
    at_place zero less e = sym e
    at_place (suc k) less e = absurd (omega arith)

pub greatest-push : (n t : ℕ) (ts : List ℕ) → greatest n (ts ++ t ∷ []) ≡ max (greatest n ts) t
greatest-push n t ts = fold-append max n ts (t ∷ [])

at_least : (n : ℕ) (ts : List ℕ) → n ≤ greatest n ts
at_least n [] = omega arith
at_least n (t ∷ ts) = let more = at_least (max n t) ts in omega (arith, more)

pub reaches : (n : ℕ) (ts : List ℕ) (u : ℕ) → Contains ts u → u ≤ greatest n ts
reaches n [] u has = absurd (none_in u has)
reaches n (t ∷ ts) u has =
    ⊎_elim (λ (h : Contains (t ∷ []) u). let is = only_one t u h in let more = at_least (max n t) ts in omega (arith, is, more))
    (λ (h : Contains ts u). reaches (max n t) ts u h) (Contains-append_cases (t ∷ []) ts u has)

-- what isn't less than the greatest is the greatest with the others
pub greatest_is : (m n : ℕ) (ts : List ℕ) → m ≤ n → greatest m ts ≤ n → greatest n ts ≡ n
greatest_is m n [] few all = refl
greatest_is m n (t ∷ ts) few all =
    let first = at_least (max m t) ts in
    let same : max n t ≡ n = omega (arith, first, all) in
    ap (λ (k : ℕ). greatest k ts) same ∙ greatest_is (max m t) n ts (omega (arith, first, all)) all
