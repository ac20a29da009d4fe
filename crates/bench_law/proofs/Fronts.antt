-- Fronts of lists.
use Rattle.std.proofs.Common.{◌≡◌, ◌≤◌, ◌<◌, ◌⊎◌, ◌+◌, ℕ, zero, suc, List, [], ◌∷◌, ◌++◌, length, take, drop, Some, slice_get, inl, inr, refl, sym, ap, subst, ◌∙◌, arith, append_assoc, append-nil, length-append, take-append-drop, take-take}
use Rattle.std.proofs.Math.Seq.{take-length}
use Rattle.std.proofs.lemmas.List.{take-append-le}

-- a list begins with another
pub record IsFront {A : Type 0} (front xs : List A) : Type 0 where
  pub rest : List A
  pub is : xs ≡ front ++ rest

pub front_of_front : {A : Type 0} {xs ys zs : List A} → IsFront xs ys → IsFront ys zs → IsFront xs zs
front_of_front {xs} f g =
    record { rest = f.rest ++ g.rest; is = g.is ∙ ap (λ l. l ++ g.rest) f.is ∙ append_assoc xs f.rest g.rest }

pub front_itself : {A : Type 0} (xs : List A) → IsFront xs xs
front_itself xs = record { rest = []; is = sym (append-nil xs) }

pub front_pushed : {A : Type 0} (xs : List A) (x : A) → IsFront xs (xs ++ x ∷ [])
front_pushed xs x = record { rest = x ∷ []; is = refl }

-- the elements up to a place
pub front_taken : {A : Type 0} (k : ℕ) (xs : List A) → IsFront (take k xs) xs
front_taken k xs = record { rest = drop k xs; is = sym (take-append-drop k xs) }

pub fronts_taken : {A : Type 0} (i k : ℕ) (xs : List A) → i ≤ k → IsFront (take i xs) (take k xs)
fronts_taken i k xs le = subst (λ l. IsFront l (take k xs)) (take-take i k xs le) (front_taken i (take k xs))

pub front_shorter : {A : Type 0} {xs ys : List A} → IsFront xs ys → length xs ≤ length ys
front_shorter {A} {xs} f = omega (arith, ap (λ (l : List A). length l) f.is, length-append xs f.rest)

-- a front is a front of each longer one
pub front_within : {A : Type 0} {xs ys : List A} (k : ℕ) → IsFront xs ys → length xs ≤ k → IsFront xs (take k ys)
front_within {A} {xs} {ys} k f le =
    let front : take (length xs) ys ≡ xs =
    ap (λ (l : List A). take (length xs) l) f.is ∙ take-append-le (length xs) xs f.rest (omega arith) ∙ take-length xs in
    subst (λ l. IsFront l (take k ys)) front (fronts_taken (length xs) k ys le)

-- the same behind other elements
pub front_behind : {A : Type 0} {xs ys : List A} (zs : List A) → IsFront xs ys → IsFront (zs ++ xs) (zs ++ ys)
front_behind {A} {xs} zs f = record { rest = f.rest; is = ap (λ l. zs ++ l) f.is ∙ sym (append_assoc zs xs f.rest) }

-- a front that reaches behind the first of two lists ends in the second
pub front_parted : {A : Type 0} (xs ys front : List A) → IsFront front (xs ++ ys) → length xs ≤ length front
    → (more : List A) × (front ≡ xs ++ more) × IsFront more ys
front_parted [] ys front f long = (front, refl, f)
front_parted (x ∷ xs) ys [] f long = absurd (omega (arith, long))
front_parted {A} (x ∷ xs) ys (z ∷ front) f long =
    let same : x ≡ z = cc (f.is) in
    let others : xs ++ ys ≡ front ++ f.rest = cc (f.is) in
    let later = front_parted xs ys front (record { rest = f.rest; is = others }) (omega (arith, long)) in
    (later.0, (λ i. sym same i ∷ later.1 i), later.2)

-- ---- elements by their places

pub parted : {A : Type 0} (k : ℕ) (xs : List A) (x : A) → slice_get xs k ≡ Some x → (rest : List A) × (xs ≡ take k xs ++ x ∷ rest)
parted k [] x at = absurd (cc at)
parted zero (y ∷ xs) x at = let same : y ≡ x = cc at in (xs, ap (λ z. z ∷ xs) same)
parted (suc k) (y ∷ xs) x at = let later = parted k xs x at in (later.0, ap (λ l. y ∷ l) later.1)

-- the front up to the next place has one element more, or none where the list has ended
pub one_more : {A : Type 0} (k : ℕ) (xs : List A)
    → (take (suc k) xs ≡ take k xs) ⊎ ((x : A) × (slice_get xs k ≡ Some x) × (take (suc k) xs ≡ take k xs ++ x ∷ []))
one_more zero [] = inl refl
one_more (suc k) [] = inl refl
one_more zero (y ∷ xs) = inr (y, refl, refl)
one_more (suc k) (y ∷ xs) =
    elim (one_more k xs) [
      | inl same ↦ inl (ap (λ l. y ∷ l) same)
      | inr more ↦ inr (more.0, more.1, ap (λ l. y ∷ l) more.2)
    ]

-- what stands behind a front
pub next_is : {A : Type 0} (xs ys : List A) (x : A) → slice_get (xs ++ ys) (length xs) ≡ Some x → (rest : List A) × (ys ≡ x ∷ rest)
next_is [] [] x at = absurd (cc at)
next_is [] (y ∷ ys) x at = let same : y ≡ x = cc at in (ys, ap (λ z. z ∷ ys) same)
next_is (z ∷ xs) ys x at = next_is xs ys x at

-- what stands in a front stands before its end, and in the list
pub in_front : {A : Type 0} (k i : ℕ) (xs : List A) (x : A) → slice_get (take k xs) i ≡ Some x → (i < k) × (slice_get xs i ≡ Some x)
in_front zero i xs x at = absurd (cc at)
in_front (suc k) i [] x at = absurd (cc at)
in_front (suc k) zero (y ∷ xs) x at = (omega arith, at)
in_front (suc k) (suc i) (y ∷ xs) x at = let later = in_front k i xs x at in (omega (arith, later.0), later.1)

-- what stands before the end of a front stands in it
pub front_has : {A : Type 0} (k i : ℕ) (xs : List A) → i < k → slice_get (take k xs) i ≡ slice_get xs i
front_has zero i xs less = absurd (omega (arith, less))
front_has (suc k) i [] less = refl
front_has (suc k) zero (x ∷ xs) less = refl
front_has (suc k) (suc i) (x ∷ xs) less = front_has k i xs (omega (arith, less))

-- the front up to an element has as many as its place says
pub length_before : {A : Type 0} (xs : List A) (k : ℕ) (x : A) → slice_get xs k ≡ Some x → length (take k xs) ≡ k
length_before [] k x at = absurd (cc at)
length_before (y ∷ xs) zero x at = refl
length_before (y ∷ xs) (suc k) x at = omega (arith, length_before xs k x at)

-- what stands in the second of two lists stands behind the first
pub behind_front : {A : Type 0} (xs ys : List A) (k m : ℕ) → m ≡ length xs + k → slice_get (xs ++ ys) m ≡ slice_get ys k
behind_front [] ys k m is = let same : m ≡ k = omega (arith, is) in ap (λ j. slice_get ys j) same
behind_front (x ∷ xs) ys k zero is = absurd (omega (arith, is))
behind_front (x ∷ xs) ys k (suc m) is = behind_front xs ys k m (omega (arith, is))

-- what stands in the first stands in both
pub before_end : {A : Type 0} (xs ys : List A) (k : ℕ) → k < length xs → slice_get (xs ++ ys) k ≡ slice_get xs k
before_end [] ys k less = absurd (omega (arith, less))
before_end (x ∷ xs) ys zero less = refl
before_end (x ∷ xs) ys (suc k) less = before_end xs ys k (omega (arith, less))
