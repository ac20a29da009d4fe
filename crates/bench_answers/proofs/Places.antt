-- Elements by their places, in longer lists and in fronts of lists.
use Rattle.std.proofs.Common.{◌≡◌, ◌<◌, ◌≤◌, ◌≢◌, ◌+◌, ℕ, zero, suc, List, [], ◌∷◌, ◌++◌, length, take, get_or, set, Some, None, inl, inr, ◌⊎◌, refl, ap, sym, ◌∙◌, arith}
use Rattle.std.specs.List.{slice_get}
use Rattle.std.proofs.lemmas.List.{take_more}
use Rattle.std.proofs.lemmas.Option.{get_or_from_slice_get, same_Some, slice_get_past, slice_get_read, slice_get_within}

-- the front with one more element
pub take_with : {X : Type 0} (xs : List X) (i : ℕ) (x : X) → slice_get xs i ≡ Some x → take (i + 1) xs ≡ take i xs ++ x ∷ []
take_with xs i x is =
    take_more xs i x (slice_get_within xs i x is) ∙ ap (λ y. take i xs ++ y ∷ []) (get_or_from_slice_get xs i x x is)

-- an element stays where it is
pub get_more : {X : Type 0} (xs ys : List X) (k : ℕ) (x : X) → slice_get xs k ≡ Some x → slice_get (xs ++ ys) k ≡ Some x
get_more [] ys k x is = cc is
get_more (y ∷ xs) ys zero x is = is
get_more (y ∷ xs) ys (suc k) x is = get_more xs ys k x is

pub get_last : {X : Type 0} (xs : List X) (y : X) → slice_get (xs ++ y ∷ []) (length xs) ≡ Some y
get_last [] y = refl
get_last (x ∷ xs) y = get_last xs y

-- an element of a list with one more is an old one or the last
pub get_pushed : {X : Type 0} (xs : List X) (y : X) (k : ℕ) (x : X) → slice_get (xs ++ y ∷ []) k ≡ Some x
    → (slice_get xs k ≡ Some x) ⊎ ((k ≡ length xs) × (y ≡ x))
get_pushed [] y zero x is = inr (refl, same_Some y x is)
get_pushed [] y (suc k) x is = cc is
get_pushed (z ∷ xs) y zero x is = inl is
get_pushed (z ∷ xs) y (suc k) x is =
    elim (get_pushed xs y k x is) [ inl old ↦ inl old | inr last ↦ inr (ap (λ (n : ℕ). suc n) last.0, last.1) ]

-- an element of a list of which one was written is that one or an old one
pub get_written : {X : Type 0} (xs : List X) (n : ℕ) (y : X) (k : ℕ) (x : X) → slice_get (set xs n y) k ≡ Some x
    → ((k ≡ n) × (y ≡ x)) ⊎ ((k ≢ n) × (slice_get xs k ≡ Some x))
get_written [] n y k x is = cc is
get_written (z ∷ xs) zero y zero x is = inl (refl, same_Some y x is)
get_written (z ∷ xs) zero y (suc k) x is = inr (λ e. omega (arith, e), is)
get_written (z ∷ xs) (suc n) y zero x is = inr (λ e. omega (arith, e), is)
get_written (z ∷ xs) (suc n) y (suc k) x is =
    elim (get_written xs n y k x is) [
      | inl here ↦ inl (ap (λ (n : ℕ). suc n) here.0, here.1)
      | inr there ↦ inr (λ e. there.0 (omega (arith, e)), there.1)
    ]

-- an element of a front
pub get_in_front : {X : Type 0} (n : ℕ) (xs : List X) (k : ℕ) (x : X) → slice_get (take n xs) k ≡ Some x → (k < n) × (slice_get xs k ≡ Some x)
get_in_front zero xs k x is = cc is
get_in_front (suc n) [] k x is = cc is
get_in_front (suc n) (y ∷ xs) zero x is = (omega arith, is)
get_in_front (suc n) (y ∷ xs) (suc k) x is = let there = get_in_front n xs k x is in (omega (arith, there.0), there.1)

pub front_get : {X : Type 0} (n : ℕ) (xs : List X) (k : ℕ) → k < n → slice_get (take n xs) k ≡ slice_get xs k
front_get zero xs k less = absurd (omega (arith, less))
front_get (suc n) [] k less = refl
front_get (suc n) (y ∷ xs) zero less = refl
front_get (suc n) (y ∷ xs) (suc k) less = front_get n xs k (omega (arith, less))

pub element_at : {X : Type 0} (xs : List X) (n : ℕ) → n < length xs → (x : X) × (slice_get xs n ≡ Some x)
element_at [] n less = absurd (omega (arith, less))
element_at (x ∷ xs) zero less = (x, refl)
element_at (x ∷ xs) (suc n) less = element_at xs n (omega (arith, less))

-- what a look-up in a list found
pub found : {X : Type 0} (items seen : List X) (n : ℕ) (x : X) → seen ≡ items → n < length seen → x ≡ get_or seen n x → slice_get items n ≡ Some x
found items seen n x same within is =
    ap (λ xs. slice_get xs n) (sym same) ∙ slice_get_read seen (length seen) n x refl within is

pub not_found : {X : Type 0} (items seen : List X) (n : ℕ) → seen ≡ items → length seen ≤ n → slice_get items n ≡ None
not_found items seen n same past = ap (λ xs. slice_get xs n) (sym same) ∙ slice_get_past seen n past
