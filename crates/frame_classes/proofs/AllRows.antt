-- All rows are left where no field was looked at.
use Rattle.std.proofs.Common.{◌≡◌, ℕ, zero, suc, ◌+◌, ◌<◌, ◌≤◌, Bool, true, false, ◌&&◌, List, [], ◌∷◌, ◌++◌, arith, refl, ap, sym, subst, length, length-take, take, cond, get_or, ◌∙◌}
use Rattle.std.specs.Prelude.{filter, nat_le, nat_lt, slice_get}
use Rattle.std.proofs.lemmas.Bool.{le-ltb, leb-false, lt-leb, lt-ltb}
use Rattle.std.proofs.lemmas.List.{append-nil, length-append, take_all, take_more}
use Rattle.std.proofs.lemmas.List.Elements.{filter-append, filter_map-append}
use Rattle.frame_rows.specs.declared.field.Values.{Values}
use Rattle.frame_rows.specs.declared.row.Row.{Row}
use Rattle.frame_rows.specs.Row.{passes}
use Rattle.frame_rows.specs.Sight.{Side}
use Rattle.frame_classes.specs.Left.{AreLeftOf, count_to, is_of, rows_at, rows_of_side}
use Rattle.frame_classes.specs.Told.{rows_of_all}

filter_all : (values : Values) (rows : List Row) → filter (λ row. passes [] row values) rows ≡ rows
filter_all values [] = refl
filter_all values (row ∷ rest) = ap (λ (rows : List Row). row ∷ rows) (filter_all values rest)

-- ---- rows by a test of their places

-- those of some rows, of which the first stands at a place
pub picked : (ℕ → Bool) → ℕ → List Row → List Row
picked test place [] = []
picked test place (row ∷ rest) = cond (test place) (row ∷ picked test (suc place) rest) (picked test (suc place) rest)

picked-append : (test : ℕ → Bool) (place : ℕ) (rows more : List Row)
    → picked test place (rows ++ more) ≡ picked test place rows ++ picked test (place + length rows) more
unfolding picked
picked-append test place [] more = let same : place + 0 ≡ place = omega arith in rw same refl
picked-append test place (row ∷ rest) more =
    let same : place + suc (length rest) ≡ suc place + length rest = omega arith in
    by_test (test place) refl (picked-append test (suc place) rest more) same
  where
    by_test : (b : Bool) → test place ≡ b → picked test (suc place) (rest ++ more) ≡ picked test (suc place) rest ++ picked test (suc place + length rest) more
        → place + suc (length rest) ≡ suc place + length rest
        → cond (test place) (row ∷ picked test (suc place) (rest ++ more)) (picked test (suc place) (rest ++ more))
        ≡ cond (test place) (row ∷ picked test (suc place) rest) (picked test (suc place) rest) ++ picked test (place + suc (length rest)) more
    by_test true is others same = rw (is, same) (ap (λ (rows : List Row). row ∷ rows) others)
    by_test false is others same = rw (is, same) others

-- all, where each place passes
picked_all : (test : ℕ → Bool) (place : ℕ) (rows : List Row) → ((n : ℕ) → place ≤ n → n < place + length rows → test n ≡ true) → picked test place rows ≡ rows
unfolding picked
picked_all test place [] h = refl
picked_all test place (row ∷ rest) h =
    let here = h place (omega arith) (omega arith) in
    rw here (ap (λ (rows : List Row). row ∷ rows) (picked_all test (suc place) rest (λ n p q. h n (omega arith) (omega arith))))

-- none, where no place does
picked_none : (test : ℕ → Bool) (place : ℕ) (rows : List Row) → ((n : ℕ) → place ≤ n → n < place + length rows → test n ≡ false) → picked test place rows ≡ []
unfolding picked
picked_none test place [] h = refl
picked_none test place (row ∷ rest) h =
    let here = h place (omega arith) (omega arith) in
    rw here (picked_none test (suc place) rest (λ n p q. h n (omega arith) (omega arith)))

picked_same : (test other : ℕ → Bool) (place : ℕ) (rows : List Row) → ((n : ℕ) → place ≤ n → test n ≡ other n) → picked test place rows ≡ picked other place rows
unfolding picked
picked_same test other place [] h = refl
picked_same test other place (row ∷ rest) h =
    let here = h place (omega arith) in
    let later = picked_same test other (suc place) rest (λ n p. h n (omega arith)) in
    rw (here, later) refl

-- ---- one side's

-- a place is one of a side's rows, where the first of all stands at another
from : ℕ → List Side → ℕ → ℕ → Bool
from start sides side place = nat_le (start + count_to sides side) place && nat_lt place (start + count_to sides (suc side))

le-leb : (a b : ℕ) → a ≤ b → nat_le a b ≡ true
le-leb a b h = by_case (nat_le a b) refl
  where
    by_case : (c : Bool) → nat_le a b ≡ c → nat_le a b ≡ true
    by_case true is = is
    by_case false is = let less : b < a = leb-false a b is in absurd (omega arith)

both : {a b : Bool} → a ≡ true → b ≡ true → (a && b) ≡ true
both p q = rw (p, q) refl

not_second : (a : Bool) {b : Bool} → b ≡ false → (a && b) ≡ false
not_second true p = p
not_second false p = refl

not_first : {a : Bool} (b : Bool) → a ≡ false → (a && b) ≡ false
not_first b p = rw p refl

side_rows : (start : ℕ) (sides : List Side) (side : ℕ) → picked (from start sides side) start (rows_of_all sides) ≡ rows_of_side sides side
unfolding from picked
side_rows start [] side = by_side side
  where
    by_side : (side : ℕ) → picked (from start [] side) start [] ≡ rows_of_side [] side
    by_side zero = refl
    by_side (suc n) = refl
side_rows start (first ∷ rest) zero =
    let one : length (first.rows ++ rows_of_all []) ≡ length first.rows = ap length (append-nil first.rows) in
    picked-append (from start (first ∷ rest) 0) start first.rows (rows_of_all rest)
    ∙ ap (λ (rows : List Row). rows ++ picked (from start (first ∷ rest) 0) (start + length first.rows) (rows_of_all rest))
    (picked_all (from start (first ∷ rest) 0) start first.rows (λ n p q.
    both (le-leb (start + 0) n (omega arith)) (lt-ltb n (start + length (first.rows ++ rows_of_all [])) (omega (arith, one)))))
    ∙ ap (λ (rows : List Row). first.rows ++ rows) (picked_none (from start (first ∷ rest) 0) (start + length first.rows) (rows_of_all rest) (λ n p q.
    not_second (nat_le (start + 0) n) (le-ltb n (start + length (first.rows ++ rows_of_all [])) (omega (arith, one)))))
side_rows start (first ∷ rest) (suc side) =
    picked-append (from start (first ∷ rest) (suc side)) start first.rows (rows_of_all rest)
    ∙ ap (λ (rows : List Row). rows ++ picked (from start (first ∷ rest) (suc side)) (start + length first.rows) (rows_of_all rest))
    (picked_none (from start (first ∷ rest) (suc side)) start first.rows (λ n p q.
    not_first (nat_lt n (start + count_to (first ∷ rest) (suc (suc side)))) (later n (counts side) q)))
    ∙ picked_same (from start (first ∷ rest) (suc side)) (from (start + length first.rows) rest side) (start + length first.rows) (rows_of_all rest) (λ n p.
    ap (λ (m : ℕ). nat_le m n && nat_lt n (start + count_to (first ∷ rest) (suc (suc side)))) (moved side)
    ∙ ap (λ (m : ℕ). nat_le (start + length first.rows + count_to rest side) n && nat_lt n m) (moved (suc side)))
    ∙ side_rows (start + length first.rows) rest side
  where
    counts : (n : ℕ) → count_to (first ∷ rest) (suc n) ≡ length first.rows + count_to rest n
    counts n = length-append first.rows (rows_of_all (take n rest))

    moved : (n : ℕ) → start + count_to (first ∷ rest) (suc n) ≡ start + length first.rows + count_to rest n
    moved n = let e = counts n in omega arith

    later : (n : ℕ) → count_to (first ∷ rest) (suc side) ≡ length first.rows + count_to rest side → n < start + length first.rows
        → nat_le (start + count_to (first ∷ rest) (suc side)) n ≡ false
    later n e q = lt-leb (start + count_to (first ∷ rest) (suc side)) n (omega arith)

-- ---- the places so far

-- whatever test a place has to pass, the rows at the places so far that pass it are those
pub record ArePlaces (rows : List Row) (k : ℕ) (places : List ℕ) : Type 0 where
  pub all : rows_at rows places ≡ take k rows
  pub each : (test : ℕ → Bool) → rows_at rows (filter test places) ≡ picked test 0 (take k rows)

pub no_places : (rows : List Row) → ArePlaces rows 0 []
unfolding picked
no_places rows = record { all = refl; each = λ test. refl }

-- the row at a place
at_one : (rows : List Row) (k : ℕ) (d : Row) → k < length rows → rows_at rows (k ∷ []) ≡ get_or rows k d ∷ []
at_one [] k d within = absurd (omega arith)
at_one (row ∷ rest) zero d within = refl
at_one (row ∷ rest) (suc k) d within = at_one rest k d (omega arith)

pub one_more : (rows : List Row) (places after : List ℕ) (k : ℕ) (d : Row) → k < length rows → ArePlaces rows k places → after ≡ places ++ k ∷ []
    → ArePlaces rows (k + 1) after
unfolding picked
one_more rows places after k d within are is =
    subst (ArePlaces rows (k + 1)) (sym is) (record {
      all = filter_map-append (λ place. slice_get rows place) places (k ∷ []) ∙ ap (λ (before : List Row). before ++ rows_at rows (k ∷ [])) are.all
          ∙ ap (λ (last : List Row). take k rows ++ last) (at_one rows k d within) ∙ sym (take_more rows k d within);
      each = λ test.
          ap (rows_at rows) (filter-append test places (k ∷ []))
          ∙ filter_map-append (λ place. slice_get rows place) (filter test places) (filter test (k ∷ []))
          ∙ ap (λ (before : List Row). before ++ rows_at rows (filter test (k ∷ []))) (are.each test)
          ∙ ap (λ (last : List Row). picked test 0 (take k rows) ++ last) (last test)
          ∙ sym (picked-append test 0 (take k rows) (get_or rows k d ∷ []))
          ∙ ap (picked test 0) (sym (take_more rows k d within));
    })
  where
    last : (test : ℕ → Bool) → rows_at rows (filter test (k ∷ [])) ≡ picked test (0 + length (take k rows)) (get_or rows k d ∷ [])
    last test =
        let count : 0 + length (take k rows) ≡ k = omega (arith, length-take k rows) in
        by_test (test k) refl count
      where
        by_test : (b : Bool) → test k ≡ b → 0 + length (take k rows) ≡ k
            → rows_at rows (cond (test k) (k ∷ []) []) ≡ cond (test (0 + length (take k rows))) (get_or rows k d ∷ []) []
        by_test true h count = rw (count, h) (at_one rows k d within)
        by_test false h count = rw (count, h) refl

-- all rows are left
pub all_left : (sides : List Side) (rows : List Row) (values : Values) (places : List ℕ) (k : ℕ) → rows ≡ rows_of_all sides → k ≡ length rows
    → ArePlaces rows k places → AreLeftOf sides [] values places
unfolding from
all_left sides rows values places k is whole are =
    record {
      all = subst (λ (xs : List Row). rows_at xs places ≡ filter (λ row. passes [] row values) xs) is (are.all ∙ full ∙ sym (filter_all values rows));
      each = λ side.
          subst (λ (xs : List Row). rows_at xs (filter (is_of sides side) places) ≡ filter (λ row. passes [] row values) (rows_of_side sides side)) is
          (are.each (is_of sides side) ∙ ap (picked (is_of sides side) 0) (full ∙ is) ∙ picked_same (is_of sides side) (from 0 sides side) 0 (rows_of_all sides) (λ n p. same side n)
          ∙ side_rows 0 sides side ∙ sym (filter_all values (rows_of_side sides side)));
    }
  where
    full : take k rows ≡ rows
    full = ap (λ (n : ℕ). take n rows) whole ∙ take_all (length rows) rows (omega arith)

    same : (side n : ℕ) → is_of sides side n ≡ from 0 sides side n
    same side n =
        let one : count_to sides side ≡ 0 + count_to sides side = omega arith in
        let next : side + 1 ≡ suc side = omega arith in
        let two : count_to sides (side + 1) ≡ 0 + count_to sides (suc side) = ap (count_to sides) next ∙ zero_more (count_to sides (suc side)) in
        ap (λ (m : ℕ). nat_le m n && nat_lt n (count_to sides (side + 1))) one ∙ ap (λ (m : ℕ). nat_le (0 + count_to sides side) n && nat_lt n m) two
      where
        zero_more : (m : ℕ) → m ≡ 0 + m
        zero_more m = omega arith
