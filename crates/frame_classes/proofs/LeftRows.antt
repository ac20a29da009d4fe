-- The rows that are left.
use Rattle.std.proofs.Common.{◌≡◌, ℕ, ◌+◌, ◌<◌, Bool, true, false, ◌&&◌, List, [], ◌∷◌, ◌++◌, Option, Some, None, refl, ap, length, take, get_or, cond, ◌∙◌}
use Rattle.std.specs.Prelude.{filter, find, slice_get}
use Rattle.std.proofs.lemmas.List.{take_more}
use Rattle.std.proofs.lemmas.List.Folds.{list_all-append}
use Rattle.frame_rows.specs.declared.field.Field.{Field}
use Rattle.frame_rows.specs.declared.field.Field.TheVariants.{Length}
use Rattle.frame_rows.specs.declared.field.Values.{Values}
use Rattle.frame_rows.specs.declared.row.Row.{Row}
use Rattle.frame_rows.specs.Field.{fields, value_at}
use Rattle.frame_rows.specs.Row.{passes, row_admits}
use Rattle.frame_classes.specs.Choices.{test_at}
use Rattle.frame_classes.specs.Left.{rows_at}

-- ---- at places

-- the rows at the places that pass a test are the rows that do
pub rows_at-filter : (rows : List Row) (test : Row → Bool) (places : List ℕ)
    → rows_at rows (filter (test_at test false rows) places) ≡ filter test (rows_at rows places)
rows_at-filter rows test [] = refl
rows_at-filter rows test (place ∷ rest) = by_row (slice_get rows place) refl (rows_at-filter rows test rest)
  where
    by_row : (row : Option Row) → slice_get rows place ≡ row
        → rows_at rows (filter (test_at test false rows) rest) ≡ filter test (rows_at rows rest)
        → rows_at rows (filter (test_at test false rows) (place ∷ rest)) ≡ filter test (rows_at rows (place ∷ rest))
    by_row None is others = rw is others
    by_row (Some row) is others = by_test (test row) refl
      where
        by_test : (passes : Bool) → test row ≡ passes
            → rows_at rows (filter (test_at test false rows) (place ∷ rest)) ≡ filter test (rows_at rows (place ∷ rest))
        by_test true passes = rw (is, passes, is) (ap (λ (rows : List Row). row ∷ rows) others)
        by_test false passes = rw (is, passes) others

-- ---- that pass two tests

-- of those that pass one test, those that pass another
pub filter-filter : {X : Type 0} (p q : X → Bool) (xs : List X) → filter q (filter p xs) ≡ filter (λ x. p x && q x) xs
filter-filter {X} p q [] = refl
filter-filter {X} p q (x ∷ xs) = by_first (p x) refl (filter-filter p q xs)
  where
    by_first : (first : Bool) → p x ≡ first → filter q (filter p xs) ≡ filter (λ x. p x && q x) xs
        → filter q (filter p (x ∷ xs)) ≡ filter (λ x. p x && q x) (x ∷ xs)
    by_first true is others = rw is (ap (λ (ys : List X). cond (q x) (x ∷ ys) ys) others)
    by_first false is others = rw is others

-- the first that passes a test
pub find-filter : {X : Type 0} (p : X → Bool) (xs : List X) → find p xs ≡ slice_get (filter p xs) 0
find-filter {X} p [] = refl
find-filter {X} p (x ∷ xs) = by_test (p x) refl (find-filter p xs)
  where
    by_test : (passes : Bool) → p x ≡ passes → find p xs ≡ slice_get (filter p xs) 0 → find p (x ∷ xs) ≡ slice_get (filter p (x ∷ xs)) 0
    by_test true is others = rw is refl
    by_test false is others = rw is others

-- ---- by one field more

-- a row passes one field more where it admits the value of that
pub passes-append : (some : List Field) (field : Field) (row : Row) (values : Values)
    → passes (some ++ field ∷ []) row values ≡ (passes some row values && row_admits row field (value_at field values))
passes-append some field row values =
    list_all-append (λ field. row_admits row field (value_at field values)) some (field ∷ [])
    ∙ ap (λ (b : Bool). passes some row values && b) (and_true (row_admits row field (value_at field values)))
  where
    and_true : (b : Bool) → (b && true) ≡ b
    and_true true = refl
    and_true false = refl

-- the fields before the next level
pub fields-more : (level : ℕ) → level < length fields → take (level + 1) fields ≡ take level fields ++ get_or fields level Length ∷ []
fields-more level within = take_more fields level Length within
