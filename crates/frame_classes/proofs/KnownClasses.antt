-- What is told of frames whatever their values of some fields are.
use Rattle.std.proofs.Common.{◌≡◌, ◌<◌, ◌≤◌, ◌%◌, ◌^◌, ℕ, zero, suc, Bool, true, List, [], ◌∷◌, Option, Some, None, arith, ap, sym, get_or, length, map, take, ◌∙◌}
use Rattle.std.specs.Prelude.{IfSome, slice_get, slice_index_or}
use Rattle.std.specs.List.{list_all}
use Rattle.std.specs.Option.{option_map}
use Rattle.std.proofs.lemmas.Bool.{and_parts}
use Rattle.frame_rows.specs.declared.class.Ending.{Ending}
use Rattle.frame_rows.specs.declared.class.FrameClass.{FrameClass}
use Rattle.frame_rows.specs.declared.field.Field.{Field}
use Rattle.frame_rows.specs.declared.field.Field.TheVariants.{FirstPriority, SecondPriority}
use Rattle.frame_rows.specs.declared.field.Values.{Values}
use Rattle.frame_rows.specs.declared.row.Row.{Row}
use Rattle.frame_rows.specs.declared.rows.Rows.{Rows}
use Rattle.frame_rows.specs.Field.{fields, place_of, value_at}
use Rattle.frame_rows.specs.Row.{class_of_row, ending_of}
use Rattle.frame_classes.specs.declared.told.Told.{Told}
use Rattle.frame_classes.specs.Left.{AreLeftOf, first_left}
use Rattle.frame_classes.specs.Settled.{asks_nothing}
use Rattle.frame_classes.specs.Splitting.{Agree}
use Rattle.frame_classes.specs.Told.{class_at, classes_at, one_of, side_by, told_of_classes, three_of, two_of}
use Rattle.frame_classes.proofs.Changed.{same_before}
use Rattle.frame_classes.proofs.FirstRows.{at_get, if_some, side_rows}
use Rattle.frame_classes.proofs.Silent.{chosen}

-- ---- endings

-- by a priority that is the same
pub first_priority : (endings : List Ending) (field : Field) (values others : Values) (d : Ending) → Agree (place_of field) values others → 7 < place_of field
    → slice_index_or endings (value_at FirstPriority values % 2 ^ 3) d ≡ slice_index_or endings (value_at FirstPriority others % 2 ^ 3) d
first_priority endings field values others d agree behind =
    ap (λ (n : ℕ). slice_index_or endings (n % 2 ^ 3) d) (same_before (place_of field) values others FirstPriority agree behind)

pub second_priority : (endings : List Ending) (field : Field) (values others : Values) (d : Ending) → Agree (place_of field) values others → 8 < place_of field
    → slice_index_or endings (value_at SecondPriority values % 2 ^ 3) d ≡ slice_index_or endings (value_at SecondPriority others % 2 ^ 3) d
second_priority endings field values others d agree behind =
    ap (λ (n : ℕ). slice_index_or endings (n % 2 ^ 3) d) (same_before (place_of field) values others SecondPriority agree behind)

-- where all are the same
each_is : (first : Ending) (endings : List Ending) → (ending : Ending → Bool) → ((e : Ending) → ending e ≡ true → e ≡ first) → list_all ending endings ≡ true
    → (p : ℕ) (d : Ending) → p < length endings → get_or endings p d ≡ first
each_is first [] test same all p d within = absurd (omega arith)
each_is first (e ∷ rest) test same all zero d within = same e (and_parts (test e) (list_all test rest) all).0
each_is first (e ∷ rest) test same all (suc p) d within = each_is first rest test same (and_parts (test e) (list_all test rest) all).1 p d (omega arith)

pub all_same : (first : Ending) (endings : List Ending) (test : Ending → Bool) → ((e : Ending) → test e ≡ true → e ≡ first) → length endings ≡ 8
    → list_all test endings ≡ true → (p q : ℕ) (d : Ending) → p < 8 → q < 8 → slice_index_or endings p d ≡ slice_index_or endings q d
all_same first endings test same eight all p q d within within' =
    each_is first endings test same all p d (omega arith) ∙ sym (each_is first endings test same all q d (omega arith))

-- ---- by a side

pub class_known : (sides : List Rows) (n : ℕ) (x : Rows) (field : Field) (values : Values) (places : List ℕ) (row : Row) (class : FrameClass)
    → AreLeftOf (map side_by sides) (take (place_of field) fields) values places → ((d : Rows) → x ≡ get_or sides n d)
    → Some row ≡ first_left (map side_by sides) places n → asks_nothing row field ≡ true
    → ((values others : Values) → Agree (place_of field) values others → ending_of x.endings row.ends values ≡ ending_of x.endings row.ends others)
    → class ≡ class_of_row x.endings row values
    → IfSome (slice_get sides n) (λ s. (others : Values) → Agree (place_of field) values others → class_at (side_by s) others ≡ Some class)
class_known sides n x field values places row class left at first nothing known is =
    if_some (λ (s : Rows). (others : Values) → Agree (place_of field) values others → class_at (side_by s) others ≡ Some class) (slice_get sides n)
    (λ s there others agree. by_side s (at s ∙ at_get sides n s there) there others agree)
  where
    by_side : (s : Rows) → x ≡ s → slice_get sides n ≡ Some s → (others : Values) → Agree (place_of field) values others → class_at (side_by s) others ≡ Some class
    by_side s same there others agree =
        ap (option_map (λ row. class_of_row s.endings row others))
        (chosen (map side_by sides) field values others places n (side_by s) row left agree (side_rows sides n s there) (sym first) nothing)
        ∙ ap (λ (r : Rows). Some (class_of_row r.endings row others)) (sym same)
        ∙ ap (λ (e : Ending). Some (record { used = row.used; ending = e })) (sym (known values others agree))
        ∙ ap (λ (c : FrameClass). Some c) (sym is)

-- ---- by all

abbrev pub IsKnown : List Rows → ℕ → Field → Values → Option FrameClass → Type 0
IsKnown sides n field values class =
    IfSome (slice_get sides n) (λ s. IfSome class (λ class. (others : Values) → Agree (place_of field) values others → class_at (side_by s) others ≡ Some class))

none_some : (t : Told) → None ≡ Some t → ⊥
none_some t e = cc

pub told_known : (sides : List Rows) (field : Field) (values : Values) (first second third : Option FrameClass) → length sides ≤ 3
    → IsKnown sides 0 field values first → IsKnown sides 1 field values second → IsKnown sides 2 field values third
    → IfSome (told_of_classes (length sides) first second third) (λ told.
    (others : Values) → Agree (place_of field) values others → classes_at (map side_by sides) others ≡ Some told)
told_known [] field values first second third three p q r = tt
told_known (a ∷ []) field values None second third three p q r = tt
told_known (a ∷ []) field values (Some c) second third three p q r = λ others agree. ap one_of (p others agree)
told_known (a ∷ b ∷ []) field values None second third three p q r = tt
told_known (a ∷ b ∷ []) field values (Some c) None third three p q r = tt
told_known (a ∷ b ∷ []) field values (Some c) (Some d) third three p q r =
    λ others agree. ap (λ (o : Option FrameClass). two_of o (class_at (side_by b) others)) (p others agree) ∙ ap (two_of (Some c)) (q others agree)
told_known (a ∷ b ∷ e ∷ []) field values None second third three p q r = tt
told_known (a ∷ b ∷ e ∷ []) field values (Some c) None third three p q r = tt
told_known (a ∷ b ∷ e ∷ []) field values (Some c) (Some d) None three p q r = tt
told_known (a ∷ b ∷ e ∷ []) field values (Some c) (Some d) (Some f) three p q r =
    λ others agree.
    ap (λ (o : Option FrameClass). three_of o (class_at (side_by b) others) (class_at (side_by e) others)) (p others agree)
    ∙ ap (λ (o : Option FrameClass). three_of (Some c) o (class_at (side_by e) others)) (q others agree)
    ∙ ap (three_of (Some c) (Some d)) (r others agree)
told_known (a ∷ b ∷ e ∷ g ∷ rest) field values first second third three p q r = absurd (omega arith)
