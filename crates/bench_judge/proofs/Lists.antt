-- Fronts of lists.
use Rattle.std.proofs.Common.{◌≡◌, ◌⊎◌, ℕ, zero, suc, ◌<◌, List, [], ◌∷◌, ◌++◌, length, take, get_or, Some, slice_get, refl, ap, ◌∙◌, inl, inr, arith}
use Rattle.std.proofs.lemmas.Option.{get_or_from_slice_get}

-- what stands in a front stands before its end, and in the list
pub in_front : {A : Type 0} (k i : ℕ) (xs : List A) (x : A) → slice_get (take k xs) i ≡ Some x → (i < k) × (slice_get xs i ≡ Some x)
in_front zero i xs x is = absurd (cc is)
in_front (suc k) i [] x is = absurd (cc is)
in_front (suc k) zero (y ∷ xs) x is = (omega arith, is)
in_front (suc k) (suc i) (y ∷ xs) x is = let at = in_front k i xs x is in (omega (arith, at.0), at.1)

-- what stands before the end of a front stands in it
pub front_has : {A : Type 0} (k i : ℕ) (xs : List A) → i < k → slice_get (take k xs) i ≡ slice_get xs i
front_has zero i xs lt = absurd (omega (arith, lt))
front_has (suc k) i [] lt = refl
front_has (suc k) zero (y ∷ xs) lt = refl
front_has (suc k) (suc i) (y ∷ xs) lt = front_has k i xs (omega (arith, lt))

-- ---- a list with one element more

pub snoc_old : {A : Type 0} (xs : List A) (x y : A) (k : ℕ) → slice_get xs k ≡ Some y → slice_get (xs ++ x ∷ []) k ≡ Some y
snoc_old [] x y k at = absurd (cc at)
snoc_old (z ∷ xs) x y zero at = at
snoc_old (z ∷ xs) x y (suc k) at = snoc_old xs x y k at

pub snoc_last : {A : Type 0} (xs : List A) (x : A) → slice_get (xs ++ x ∷ []) (length xs) ≡ Some x
snoc_last [] x = refl
snoc_last (z ∷ xs) x = snoc_last xs x

-- what stands in it is old or the last
pub snoc_cases : {A : Type 0} (xs : List A) (x y : A) (k : ℕ) → slice_get (xs ++ x ∷ []) k ≡ Some y
    → (slice_get xs k ≡ Some y) ⊎ ((k ≡ length xs) × (x ≡ y))
snoc_cases [] x y zero at = inr (refl, cc at)
snoc_cases [] x y (suc k) at = absurd (cc at)
snoc_cases (z ∷ xs) x y zero at = inl at
snoc_cases (z ∷ xs) x y (suc k) at =
    elim (snoc_cases xs x y k at) [
      | inl old ↦ inl old
      | inr last ↦ inr (ap suc last.0, last.1)
    ]

-- what is read at a place is what stands there
pub read_is : {A : Type 0} (xs : List A) (n : ℕ) (x y : A) → x ≡ get_or xs n x → slice_get xs n ≡ Some y → x ≡ y
read_is xs n x y read at = read ∙ get_or_from_slice_get xs n y x at
