-- The least instance that a test holds of is the first among instances in ascending order.
use Rattle.std.proofs.Common.{◌≡◌, ℕ, zero, suc, ◌+◌, ◌<◌, ◌≤◌, Bool, true, false, List, [], ◌∷◌, length, get_or, drop, map, Option, Some, None, refl, ap, ◌∙◌, arith, add-one}
use Rattle.std.specs.Prelude.{if◌then◌else◌, filter, min}
use Rattle.std.specs.Option.{option_map_or}
use Rattle.managed_entity.specs.Instance.{Instance}
use Rattle.mib_state.specs.Entities.{number_at, IsAscending}
use Rattle.mib_state.specs.Attached.{least_of, least_instance}
use Rattle.mib_state.proofs.Place.{tail_ascending}

-- the number of the first
abbrev pub first_of : (Instance → Bool) → List Instance → Option ℕ
first_of test [] = None
first_of test (i ∷ rest) = if test i then Some i.number else first_of test rest

-- a number is under another, if there is one
abbrev IsUnder : ℕ → Option ℕ → Type 0
IsUnder n None = Unit {0}
IsUnder n (Some m) = n < m

under_least : (n m : ℕ) (o : Option ℕ) → n < m → IsUnder n o → n < option_map_or (min m) o m
under_least n m None lt under = lt
under_least n m (Some k) lt under = omega arith

least_under : (n : ℕ) (o : Option ℕ) → IsUnder n o → option_map_or (min n) o n ≡ n
least_under n None under = refl
least_under n (Some m) under = omega arith

-- the least of instances of greater numbers is greater
under : (test : Instance → Bool) (l : List Instance) (n : ℕ) → ((j : ℕ) → j < length l → n < number_at l j) → IsUnder n (least_instance test l)
under test [] n greater = tt
under test (x ∷ l) n greater =
    let later : IsUnder n (least_instance test l) = under test l n (λ j lt. greater (suc j) (omega arith)) in
    let here : n < x.number = greater zero (omega arith) in
    elim (test x) as (λ b. IsUnder n (least_of (map (λ (i : Instance). i.number) (if b then x ∷ filter test l else filter test l)))) [
      | true ↦ under_least n x.number (least_instance test l) here later
      | false ↦ later
    ]

pub least_first : (test : Instance → Bool) (l : List Instance) → IsAscending l → least_instance test l ≡ first_of test l
least_first test [] up = refl
least_first test (x ∷ l) up =
    let later = least_first test l (tail_ascending x l up) in
    let greater : IsUnder x.number (least_instance test l) = under test l x.number (λ j lt. up zero (suc j) (omega arith) (omega arith)) in
    elim (test x) as (λ b. least_of (map (λ (i : Instance). i.number) (if b then x ∷ filter test l else filter test l)) ≡ (if b then Some x.number else first_of test l)) [
      | true ↦ ap Some (least_under x.number (least_instance test l) greater)
      | false ↦ later
    ]

module _ {R : Type 0} (shown : R → Instance) (test : Instance → Bool) where
  -- the first from a place on: what stands there, or a later one
  first_step : (rows : List R) (i : ℕ) (row : R) → i < length rows → row ≡ get_or rows i row
      → first_of test (map shown (drop i rows)) ≡ (if test (shown row) then Some (shown row).number else first_of test (map shown (drop (suc i) rows)))
  first_step [] i row h is = absurd (omega arith)
  first_step (x ∷ rows) zero row h is = rw is refl
  first_step (x ∷ rows) (suc i) row h is = first_step rows i row (omega arith) is

  pub first_here : (rows : List R) (i : ℕ) (row : R) → i < length rows → row ≡ get_or rows i row → test (shown row) ≡ true
      → first_of test (map shown (drop i rows)) ≡ Some (shown row).number
  first_here rows i row h is holds = first_step rows i row h is ∙ rw holds refl

  pub first_later : (rows : List R) (i : ℕ) (row : R) → i < length rows → row ≡ get_or rows i row → test (shown row) ≡ false
      → first_of test (map shown (drop i rows)) ≡ first_of test (map shown (drop (i + 1) rows))
  first_later rows i row h is not = first_step rows i row h is ∙ rw (not, add-one) refl

  pub first_past : (rows : List R) (i : ℕ) → length rows ≤ i → first_of test (map shown (drop i rows)) ≡ None
  first_past [] zero h = refl
  first_past [] (suc i) h = refl
  first_past (x ∷ rows) zero h = absurd (omega arith)
  first_past (x ∷ rows) (suc i) h = first_past rows i (omega arith)
