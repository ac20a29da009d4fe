-- Values that stand for others, by what rows that are left ask and read.
use Rattle.std.proofs.Common.{◌≡◌, ◌≢◌, ℕ, suc, ◌<◌, ◌≤◌, Bool, true, false, ◌&&◌, List, [], ◌∷◌, arith, refl, ap, sym, subst, length, length-take, take, get_or, inl, ◌∙◌}
use Rattle.std.specs.Prelude.{All, Any, IsTrue, filter, map}
use Rattle.std.proofs.lemmas.Bool.{true≢false}
use Rattle.std.proofs.lemmas.List.Elements.{All-append, All-cons, All-head, All-nil, All-tail, All-weaker}
use Rattle.frame_rows.specs.declared.field.Field.{Field}
use Rattle.frame_rows.specs.declared.field.Field.TheVariants.{Length, FirstType, SecondType, ThirdType, FirstVid, SecondVid, ThirdVid, FirstPriority, SecondPriority, FirstEligible, SecondEligible}
use Rattle.frame_rows.specs.declared.field.Values.{Values}
use Rattle.frame_rows.specs.declared.row.Row.{Row}
use Rattle.frame_rows.specs.Field.{end_of, fields, place_of, value_at}
use Rattle.frame_rows.specs.declared.ask.Ask.{Ask}
use Rattle.frame_rows.specs.Fits.{ask_fits, asks_number, ends_fit, marking_fits, row_fits, tags_fit}
use Rattle.vlan_rule.specs.declared.treatment.Treatment.TheVariants as treatment
use Rattle.vlan_rule.specs.Meaning.{treatment_fits}
use Rattle.std.specs.List.{list_all}
use Rattle.std.proofs.lemmas.List.Sums.{AllPass-from_list_all}
use Rattle.frame_rows.specs.Words.{limit_of}
use Rattle.frame_rows.specs.Row.{ask_at, passes, row_admits, row_marks, row_reads}
use Rattle.frame_classes.specs.Splitting.{AreCovering, CanBe, IsCovered, IsNear, IsOf, Stands, StandsFor}
use Rattle.frame_classes.specs.Beside.{AreBeside, SideFits}
use Rattle.frame_classes.specs.Left.{AreLeft, AreLeftOf, rows_at}
use Rattle.frame_classes.specs.Told.{rows_of_all, side_by}
use Rattle.frame_rows.specs.declared.rows.Rows.{Rows}
use Rattle.frame_rows.specs.Sight.{Side}
use Rattle.frame_classes.proofs.SameReads.{MarkAlike, ReadAlike, before, marks_alike, reads_alike}

-- ---- rows that are left

-- what holds of each that passes a test holds of those that do
pub all_filtered : {X : Type 0} (P : X → Type 0) (p : X → Bool) (xs : List X) → All (λ x. p x ≡ true → P x) xs → All P (filter p xs)
all_filtered {X} P p [] h = All-nil P
all_filtered {X} P p (x ∷ xs) h =
    by_first (p x) refl (all_filtered P p xs (All-tail (λ x. p x ≡ true → P x) x xs h))
  where
    by_first : (b : Bool) → p x ≡ b → All P (filter p xs) → All P (filter p (x ∷ xs))
    by_first true is others = rw is (All-cons P x (filter p xs) (All-head (λ x. p x ≡ true → P x) x xs h is) others)
    by_first false is others = rw is others

-- what holds of each row that passes, and reads alike, holds of those that are left
pub all_left : (P : Row → Type 0) (rows : List Row) (some : List Field) (values others : Values) (places : List ℕ) → AreLeft rows some values places
    → IsNear rows some values others → ((row : Row) → ReadAlike row some values others → MarkAlike row some values others → P row) → All P (rows_at rows places)
all_left P rows some values others places left near each =
    subst (All P) (sym left)
    (all_filtered P (λ row. passes some row values) rows (λ k d h is. each (get_or rows k d) (near.read_alike k d h is) (near.marked_alike k d h is)))

-- ---- a value for itself

pub same_stands : (rows : List Row) (field : Field) (values others : Values) (value : ℕ) (places : List ℕ)
    → AreLeft rows (take (place_of field) fields) values places → IsNear rows (take (place_of field) fields) values others
    → length values.values ≡ 11 → place_of field < 11 → value ≡ value_at field others → (place_of field ≡ 0 → value_at Length others ≤ value)
    → Stands (rows_at rows places) field values others value
same_stands rows field values others value places left near eleven within is longer =
    record {
      each = all_left (λ row. StandsFor row field values value others (value_at field others)) rows (take (place_of field) fields) values others places left near
          (λ row alike marked. record {
            admits = ap (row_admits row field) is;
            reads = λ _. ap (row_reads row values field) is ∙ reads_alike row field values others (omega (arith, eleven)) alike;
            marks = λ _. ap (row_marks row values field) is ∙ marks_alike row field values others (omega (arith, eleven)) marked;
          });
      longer = longer;
    }

-- ---- a field that the frame is too short for

pub field_within : (field : Field) → place_of field < 11
field_within Length = omega arith
field_within FirstType = omega arith
field_within SecondType = omega arith
field_within ThirdType = omega arith
field_within FirstVid = omega arith
field_within SecondVid = omega arith
field_within ThirdVid = omega arith
field_within FirstPriority = omega arith
field_within SecondPriority = omega arith
field_within FirstEligible = omega arith
field_within SecondEligible = omega arith

limit_positive : (field : Field) → 0 < limit_of field
limit_positive Length = omega arith
limit_positive FirstType = omega arith
limit_positive SecondType = omega arith
limit_positive ThirdType = omega arith
limit_positive FirstVid = omega arith
limit_positive SecondVid = omega arith
limit_positive ThirdVid = omega arith
limit_positive FirstPriority = omega arith
limit_positive SecondPriority = omega arith
limit_positive FirstEligible = omega arith
limit_positive SecondEligible = omega arith

-- others' value of a field
pub other_can_be : (least : ℕ) (others : Values) → IsOf least fields others → (field : Field) → CanBe least (value_at Length others) field (value_at field others)
other_can_be least others of field = before (λ f. CanBe least (value_at Length others) f (value_at f others)) 11 of field (field_within field)

-- a field that comes later than the length has fields before it
some_earlier : (field : Field) → place_of field ≢ 0 → 0 < length (take (place_of field) fields)
some_earlier field apart =
    let within = field_within field in
    omega (arith, length-take (place_of field) fields)

-- a frame is too short for none but later ones
pub short_behind : (field : Field) (count : ℕ) → count < end_of field → place_of field ≢ 0
short_behind Length count h e = absurd (omega arith)
short_behind FirstType count h e = absurd (omega arith)
short_behind SecondType count h e = absurd (omega arith)
short_behind ThirdType count h e = absurd (omega arith)
short_behind FirstVid count h e = absurd (omega arith)
short_behind SecondVid count h e = absurd (omega arith)
short_behind ThirdVid count h e = absurd (omega arith)
short_behind FirstPriority count h e = absurd (omega arith)
short_behind SecondPriority count h e = absurd (omega arith)
short_behind FirstEligible count h e = absurd (omega arith)
short_behind SecondEligible count h e = absurd (omega arith)

pub absent_choices : (sides : List Side) (least : ℕ) (field : Field) (values : Values) (places choices : List ℕ)
    → value_at Length values < end_of field → choices ≡ 0 ∷ [] → AreCovering sides places least field values choices
absent_choices sides least field values places choices short is =
    subst (λ (choices : List ℕ). AreCovering sides places least field values choices) (sym is) (record {
      within = All-cons (CanBe least (value_at Length values) field) 0 [] (record { below = limit_positive field; absent = λ _. refl; long = λ e. absurd (behind e) })
          (All-nil (CanBe least (value_at Length values) field));
      each = each;
    })
  where
    behind : place_of field ≢ 0
    behind = short_behind field (value_at Length values) short

    each : (others : Values) → IsOf least fields others → IsNear (rows_of_all sides) (take (place_of field) fields) values others
        → IsCovered sides places (rows_at (rows_of_all sides) places) field values others (0 ∷ [])
    each others of near =
        let longer : value_at Length others ≤ value_at Length values = near.longer (some_earlier field behind) in
        let none : value_at field others ≡ 0 = (other_can_be least others of field).absent (omega arith) in
        inl (0, omega arith, sym none)

-- ---- what rows ask that fit

and_left : (a b : Bool) → IsTrue (a && b) → IsTrue a
and_left true b h = refl
and_left false b h = h

and_right : (a b : Bool) → IsTrue (a && b) → IsTrue b
and_right true b h = h
and_right false b h = absurd (true≢false (sym h))

-- of each field
pub fits_at : (input : ℕ) (row : Row) → IsTrue (row_fits input row) → (field : Field) → ask_fits input field (ask_at row field) ≡ true
fits_at input row fits field =
    before (λ f. ask_fits input f (ask_at row f) ≡ true) 11
    (AllPass-from_list_all (λ f. ask_fits input f (ask_at row f)) fields
    (and_left (list_all (λ f. ask_fits input f (ask_at row f)) fields)
    (ends_fit row.ends && (marking_fits row.marking && (tags_fit input row && treatment_fits (treatment.Retag row.retag)))) fits))
    field (field_within field)

rest_fits : (input : ℕ) (row : Row) → IsTrue (row_fits input row)
    → IsTrue (ends_fit row.ends && (marking_fits row.marking && (tags_fit input row && treatment_fits (treatment.Retag row.retag))))
rest_fits input row fits =
    and_right (list_all (λ f. ask_fits input f (ask_at row f)) fields)
    (ends_fit row.ends && (marking_fits row.marking && (tags_fit input row && treatment_fits (treatment.Retag row.retag)))) fits

-- how their frames end
pub ends_fits_at : (input : ℕ) (row : Row) → IsTrue (row_fits input row) → ends_fit row.ends ≡ true
ends_fits_at input row fits =
    and_left (ends_fit row.ends) (marking_fits row.marking && (tags_fit input row && treatment_fits (treatment.Retag row.retag))) (rest_fits input row fits)

-- and what gives added tags their priority
pub marking_fits_at : (input : ℕ) (row : Row) → IsTrue (row_fits input row) → marking_fits row.marking ≡ true
marking_fits_at input row fits =
    and_left (marking_fits row.marking) (tags_fit input row && treatment_fits (treatment.Retag row.retag))
    (and_right (ends_fit row.ends) (marking_fits row.marking && (tags_fit input row && treatment_fits (treatment.Retag row.retag))) (rest_fits input row fits))

-- ---- rows of several sides

-- a row fits the input TPID of one of some sides
abbrev pub FitsSome : List Side → Row → Type 0
FitsSome sides row = Any (λ side. IsTrue (row_fits side.settings.input_tpid row)) sides

pub all_fit : (sides : List Side) → All SideFits sides → All (FitsSome sides) (rows_of_all sides)
all_fit [] fit = All-nil (FitsSome [])
all_fit (side ∷ rest) fit =
    All-append (FitsSome (side ∷ rest)) side.rows (rows_of_all rest)
    (All-weaker (λ row. IsTrue (row_fits side.settings.input_tpid row)) (FitsSome (side ∷ rest)) (λ row h. (0, side, omega arith, refl, h)) side.rows
    (All-head SideFits side rest fit))
    (All-weaker (FitsSome rest) (FitsSome (side ∷ rest)) later (rows_of_all rest) (all_fit rest (All-tail SideFits side rest fit)))
  where
    later : (row : Row) → FitsSome rest row → FitsSome (side ∷ rest) row
    later row (i, s, within, is, h) = (suc i, s, omega arith, is, h)

late_number : (input : ℕ) (field : Field) (ask : Ask) → 3 < place_of field → ask_fits input field ask ≡ true → asks_number ask ≡ true
late_number input Length ask late h = absurd (omega arith)
late_number input FirstType ask late h = absurd (omega arith)
late_number input SecondType ask late h = absurd (omega arith)
late_number input ThirdType ask late h = absurd (omega arith)
late_number input FirstVid ask late h = h
late_number input SecondVid ask late h = h
late_number input ThirdVid ask late h = h
late_number input FirstPriority ask late h = h
late_number input SecondPriority ask late h = h
late_number input FirstEligible ask late h = h
late_number input SecondEligible ask late h = h

-- ---- a case

-- the rows of some sides, which fit, and those of them that are left
pub record IsCase (sides : List Side) (rows : List Row) (some : List Field) (values : Values) (places : List ℕ) : Type 0 where
  pub all : rows ≡ rows_of_all sides
  pub fits : All (FitsSome sides) rows
  pub left : AreLeft rows some values places

pub case_of : (sides : List Rows) (rows : List Row) (ends : List ℕ) (some : List Field) (values : Values) (places : List ℕ)
    → AreBeside sides rows ends → AreLeftOf (map side_by sides) some values places
    → IsCase (map side_by sides) rows some values places
case_of sides rows ends some values places beside left =
    record {
      all = beside.together;
      fits = subst (All (FitsSome (map side_by sides))) (sym beside.together) (all_fit (map side_by sides) beside.fit);
      left = subst (λ (rs : List Row). AreLeft rs some values places) (sym beside.together) left.all;
    }

-- numbers are asked for behind the types
pub asks_numbers : (sides : List Side) (rows : List Row) (field : Field) → All (FitsSome sides) rows → 3 < place_of field
    → All (λ row. asks_number (ask_at row field) ≡ true) rows
asks_numbers sides rows field fit late = All-weaker (FitsSome sides) (λ row. asks_number (ask_at row field) ≡ true) by_side rows fit
  where
    by_side : (row : Row) → FitsSome sides row → asks_number (ask_at row field) ≡ true
    by_side row (i, side, within, is, fits) = late_number side.settings.input_tpid field (ask_at row field) late (fits_at side.settings.input_tpid row fits field)

-- values that cover all, by rows that are those of all sides
pub record CoverBy (sides : List Side) (rows : List Row) (places : List ℕ) (least : ℕ) (field : Field) (values : Values) (choices : List ℕ) : Type 0 where
  pub within : All (CanBe least (value_at Length values) field) choices
  pub each : (others : Values) → IsOf least fields others → IsNear rows (take (place_of field) fields) values others
      → IsCovered sides places (rows_at rows places) field values others choices

pub covering : (sides : List Side) (rows : List Row) (places : List ℕ) (least : ℕ) (field : Field) (values : Values) (choices : List ℕ)
    → rows ≡ rows_of_all sides → CoverBy sides rows places least field values choices → AreCovering sides places least field values choices
covering sides rows places least field values choices is by =
    record {
      within = by.within;
      each = λ others of near.
          subst (λ (rs : List Row). IsCovered sides places (rows_at rs places) field values others choices) is
          (by.each others of (subst (λ (rs : List Row). IsNear rs (take (place_of field) fields) values others) (sym is) near));
    }
