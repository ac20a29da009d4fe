-- The first place of a side among those that are left.
use Rattle.std.proofs.Common.{◌≡◌, ℕ, zero, suc, ◌+◌, ◌<◌, ◌≤◌, List, [], ◌∷◌, Some, None, arith, refl, ap, length, length-append, take, ◌∙◌, sym, true, false}
use Rattle.std.specs.Prelude.{filter, nat_le, nat_lt, slice_get}
use Rattle.std.proofs.lemmas.Bool.{le-ltb, leb-true, lt-ltb}
use Rattle.frame_rows.specs.declared.row.Row.{Row}
use Rattle.frame_rows.specs.Sight.{Side}
use Rattle.frame_classes.specs.Left.{count_to, first_left, is_of, rows_at}
use Rattle.frame_classes.specs.Told.{rows_of_all}
use Rattle.frame_classes.proofs.LeftRows.{filter-filter}
use Rattle.frame_classes.proofs.Masks.{none_within}

-- up to a side there are no more rows than there are
pub count_le : (sides : List Side) (n : ℕ) → count_to sides n ≤ length (rows_of_all sides)
count_le [] zero = omega arith
count_le [] (suc n) = omega arith
count_le (side ∷ rest) zero = omega arith
count_le (side ∷ rest) (suc n) =
    let later = count_le rest n in
    let some = length-append side.rows (rows_of_all (take n rest)) in
    let all = length-append side.rows (rows_of_all rest) in
    omega (arith, later, some, all)

pub nothing_there : {X : Type 0} (xs : List X) (k : ℕ) → slice_get xs k ≡ None → length xs ≤ k
nothing_there [] k none = omega arith
nothing_there (x ∷ xs) zero none = absurd (some_none x none)
  where
    some_none : {X : Type 0} (x : X) → Some x ≡ None → ⊥
    some_none x e = cc
nothing_there (x ∷ xs) (suc k) none = let later = nothing_there xs k none in omega (arith, later)

module _ (sides : List Side) (side : ℕ) (places : List ℕ) where
  -- those of the side are those from its first place on that are below its last
  side_places : filter (is_of sides side) places
      ≡ filter (λ k. nat_lt k (count_to sides (side + 1))) (filter (nat_le (count_to sides side)) places)
  side_places = sym (filter-filter (nat_le (count_to sides side)) (λ k. nat_lt k (count_to sides (side + 1))) places)

  first_by : (after : List ℕ) → filter (nat_le (count_to sides side)) places ≡ after
      → first_left sides places side ≡ slice_get (rows_at (rows_of_all sides) (filter (λ k. nat_lt k (count_to sides (side + 1))) after)) 0
  first_by after is =
      ap (λ (ks : List ℕ). slice_get (rows_at (rows_of_all sides) ks) 0)
      (side_places ∙ ap (λ (ks : List ℕ). filter (λ k. nat_lt k (count_to sides (side + 1))) ks) is)

  pub first_none : filter (nat_le (count_to sides side)) places ≡ [] → first_left sides places side ≡ None
  first_none is = first_by [] is

  module _ (place : ℕ) (is : filter (nat_le (count_to sides side)) places ≡ place ∷ filter (nat_le (place + 1)) places) where
    pub first_there : (row : Row) → place < count_to sides (side + 1) → slice_get (rows_of_all sides) place ≡ Some row → first_left sides places side ≡ Some row
    first_there row within there =
        first_by (place ∷ filter (nat_le (place + 1)) places) is ∙ first_row (lt-ltb place (count_to sides (side + 1)) within)
      where
        first_row : nat_lt place (count_to sides (side + 1)) ≡ true
            → slice_get (rows_at (rows_of_all sides) (filter (λ k. nat_lt k (count_to sides (side + 1))) (place ∷ filter (nat_le (place + 1)) places))) 0 ≡ Some row
        first_row below = rw (below, there) refl

    pub first_past : count_to sides (side + 1) ≤ place → first_left sides places side ≡ None
    first_past past =
        first_by (place ∷ filter (nat_le (place + 1)) places) is ∙ none_left (le-ltb place (count_to sides (side + 1)) past)
      where
        later : (k : ℕ) → nat_le (place + 1) k ≡ true → nat_lt k (count_to sides (side + 1)) ≡ false
        later k from = let le : place + 1 ≤ k = leb-true (place + 1) k from in le-ltb k (count_to sides (side + 1)) (omega (arith, le, past))

        none_left : nat_lt place (count_to sides (side + 1)) ≡ false
            → slice_get (rows_at (rows_of_all sides) (filter (λ k. nat_lt k (count_to sides (side + 1))) (place ∷ filter (nat_le (place + 1)) places))) 0 ≡ None
        none_left past =
            let rest : filter (λ k. nat_lt k (count_to sides (side + 1))) (filter (nat_le (place + 1)) places) ≡ [] =
            none_within (nat_le (place + 1)) (λ k. nat_lt k (count_to sides (side + 1))) places later in
            rw (past, rest) refl
