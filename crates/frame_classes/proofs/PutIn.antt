-- What stands among classes with one more.
use Rattle.std.proofs.Common.{◌≡◌, ℕ, zero, suc, ◌+◌, ◌<◌, ◌≤◌, ◌==◌, Bool, true, false, List, [], ◌∷◌, arith, refl, sym, subst, nat_lt}
use Rattle.std.specs.Prelude.{All, Contains, map, slice_index}
use Rattle.std.specs.List.Sorted.{IsStrictlyIncreasing}
use Rattle.std.proofs.lemmas.Bool.{eqb-false, eqb-true, ltb-false, ltb-true}
use Rattle.std.proofs.lemmas.List.Elements.{All-cons, All-head, All-tail}
use Rattle.frame_classes.specs.declared.told.Told.{Told}
use Rattle.frame_classes.specs.declared.found.Sample.{Sample}
use Rattle.frame_classes.specs.Found.{Ascend, told_of, number_of, put_in}

-- ---- elements

contains_first : {X : Type 0} (x : X) (xs : List X) → Contains (x ∷ xs) x
contains_first x xs = (0, omega arith, refl)

contains_later : {X : Type 0} (y x : X) (xs : List X) → Contains xs x → Contains (y ∷ xs) x
contains_later y x xs (k, within, is) = (suc k, omega arith, is)

contains_by : {X : Type 0} (Q : Type 0) (y x : X) (xs : List X) → (y ≡ x → Q) → (Contains xs x → Q) → Contains (y ∷ xs) x → Q
contains_by Q y x xs first later (zero, within, is) = first is
contains_by Q y x xs first later (suc k, within, is) = later (k, omega arith, is)

-- ---- all that are there

-- what holds of a sample and of those before
pub All-put_in : (P : Sample → Type 0) (new : Sample) (samples : List Sample) → P new → All P samples → All P (put_in new samples)
All-put_in P new [] here all = All-cons P new [] here all
All-put_in P new (first ∷ rest) here all =
    by_tests (nat_lt (number_of first) (number_of new)) (number_of first == number_of new) refl refl
    (All-put_in P new rest here (All-tail P first rest all))
  where
    by_tests : (less same : Bool) → nat_lt (number_of first) (number_of new) ≡ less → (number_of first == number_of new) ≡ same
        → All P (put_in new rest) → All P (put_in new (first ∷ rest))
    by_tests true same p q others = rw p (All-cons P first (put_in new rest) (All-head P first rest all) others)
    by_tests false true p q others = rw (p, q) all
    by_tests false false p q others = rw (p, q) (All-cons P new (first ∷ rest) here all)

-- the classes before stay
pub kept_by_put_in : (new : Sample) (samples : List Sample) (told : Told)
    → Contains (told_of samples) told → Contains (told_of (put_in new samples)) told
kept_by_put_in new [] told (k, within, is) = absurd (omega arith)
kept_by_put_in new (first ∷ rest) told there =
    by_tests (nat_lt (number_of first) (number_of new)) (number_of first == number_of new) refl refl (kept_by_put_in new rest told)
  where
    by_tests : (less same : Bool) → nat_lt (number_of first) (number_of new) ≡ less → (number_of first == number_of new) ≡ same
        → (Contains (told_of rest) told → Contains (told_of (put_in new rest)) told)
        → Contains (told_of (put_in new (first ∷ rest))) told
    by_tests true same p q others =
        rw p (contains_by (Contains (first.told ∷ told_of (put_in new rest)) told) first.told told (told_of rest)
        (λ e. subst (λ (c : Told). Contains (first.told ∷ told_of (put_in new rest)) c) e (contains_first first.told (told_of (put_in new rest))))
        (λ later. contains_later first.told told (told_of (put_in new rest)) (others later)) there)
    by_tests false true p q others = rw (p, q) there
    by_tests false false p q others = rw (p, q) (contains_later new.told told (told_of (first ∷ rest)) there)

-- what is told itself is there, if those with its number are it
pub there_by_put_in : (new : Sample) (samples : List Sample) → All (λ sample. number_of sample ≡ number_of new → sample.told ≡ new.told) samples
    → Contains (told_of (put_in new samples)) new.told
there_by_put_in new [] same = contains_first new.told []
there_by_put_in new (first ∷ rest) same =
    by_tests (nat_lt (number_of first) (number_of new)) (number_of first == number_of new) refl refl
    (there_by_put_in new rest (All-tail Same first rest same))
  where
    Same : Sample → Type 0
    Same sample = number_of sample ≡ number_of new → sample.told ≡ new.told

    by_tests : (less equal : Bool) → nat_lt (number_of first) (number_of new) ≡ less → (number_of first == number_of new) ≡ equal
        → Contains (told_of (put_in new rest)) new.told → Contains (told_of (put_in new (first ∷ rest))) new.told
    by_tests true equal p q others = rw p (contains_later first.told new.told (told_of (put_in new rest)) others)
    by_tests false true p q others =
        let is = All-head Same first rest same (eqb-true (number_of first) (number_of new) q) in
        rw (p, q) (subst (λ (c : Told). Contains (first.told ∷ told_of rest) c) is (contains_first first.told (told_of rest)))
    by_tests false false p q others = rw (p, q) (contains_first new.told (told_of (first ∷ rest)))

-- ---- in order

-- a number is below the first of some
above : ℕ → List ℕ → Type 0
above n [] = Unit {0}
above n (m ∷ rest) = n < m

rise : List ℕ → Type 0
rise [] = Unit {0}
rise (n ∷ rest) = above n rest × rise rest

next_place : (k : ℕ) → suc k + 1 ≡ suc (k + 1)
next_place k = omega arith

rise_of : (xs : List ℕ) → IsStrictlyIncreasing xs → rise xs
unfolding above rise
rise_of [] h = tt
rise_of (n ∷ []) h = (tt, tt)
rise_of (n ∷ m ∷ rest) h = (
  h 0 (omega arith),
  rise_of (m ∷ rest) (λ k within.
      subst (λ (i : ℕ). slice_index (m ∷ rest) k < slice_index (n ∷ m ∷ rest) i) (next_place k) (h (suc k) (omega arith))),
)

of_rise : (xs : List ℕ) → rise xs → IsStrictlyIncreasing xs
unfolding above rise
of_rise [] h k within = absurd (omega arith)
of_rise (n ∷ []) h k within = absurd (omega arith)
of_rise (n ∷ m ∷ rest) h zero within = h.0
of_rise (n ∷ m ∷ rest) h (suc k) within =
    subst (λ (i : ℕ). slice_index (m ∷ rest) k < slice_index (n ∷ m ∷ rest) i) (sym (next_place k)) (of_rise (m ∷ rest) h.1 k (omega arith))

above_put : (n : ℕ) (new : Sample) (samples : List Sample) → n < number_of new → above n (map number_of samples) → above n (map number_of (put_in new samples))
unfolding above
above_put n new [] less above_all = less
above_put n new (first ∷ rest) less above_all =
    by_tests (nat_lt (number_of first) (number_of new)) (number_of first == number_of new) refl refl
  where
    by_tests : (small same : Bool) → nat_lt (number_of first) (number_of new) ≡ small → (number_of first == number_of new) ≡ same
        → above n (map number_of (put_in new (first ∷ rest)))
    by_tests true same p q = rw p above_all
    by_tests false true p q = rw (p, q) above_all
    by_tests false false p q = rw (p, q) less

rise_put : (new : Sample) (samples : List Sample) → rise (map number_of samples) → rise (map number_of (put_in new samples))
unfolding above rise
rise_put new [] h = (tt, tt)
rise_put new (first ∷ rest) h =
    by_tests (nat_lt (number_of first) (number_of new)) (number_of first == number_of new) refl refl (rise_put new rest h.1)
  where
    by_tests : (small same : Bool) → nat_lt (number_of first) (number_of new) ≡ small → (number_of first == number_of new) ≡ same
        → rise (map number_of (put_in new rest)) → rise (map number_of (put_in new (first ∷ rest)))
    by_tests true same p q others = rw p (above_put (number_of first) new rest (ltb-true (number_of first) (number_of new) p) h.0, others)
    by_tests false true p q others = rw (p, q) h
    by_tests false false p q others =
        let not_less : number_of new ≤ number_of first = ltb-false (number_of first) (number_of new) p in
        let apart : number_of first ≡ number_of new → ⊥ = eqb-false (number_of first) (number_of new) q in
        rw (p, q) (below (number_of new) (number_of first) not_less apart, h)
      where
        below : (a b : ℕ) → a ≤ b → (b ≡ a → ⊥) → a < b
        below a b le ne = omega arith

pub ascend_by_put_in : (new : Sample) (samples : List Sample) → Ascend samples → Ascend (put_in new samples)
ascend_by_put_in new samples h = of_rise (map number_of (put_in new samples)) (rise_put new samples (rise_of (map number_of samples) h))
