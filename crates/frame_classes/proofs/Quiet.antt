-- Where the configuration between sees the frames that are looked for as the one before or the one after does, by each of their rows that are left,
-- nothing is told of them.
use Rattle.std.proofs.Common.{◌≡◌, ◌&&◌, inl, inr, ℕ, Bool, true, false, List, [], ◌∷◌, Option, Some, None, if◌then◌else◌, arith, refl, ap, sym, subst, drop, filter, length, map, take, get_or, ◌∙◌}
use Rattle.std.specs.Prelude.{All, IfSome, slice_get}
use Rattle.std.proofs.lemmas.Bool.{and_parts, true≢false}
use Rattle.std.proofs.lemmas.List.{append-nil, length-map}
use Rattle.std.proofs.lemmas.List.Elements.{All-cons, All-head, All-nil, All-tail}
use Rattle.frame_rows.specs.declared.class.FrameClass.{FrameClass}
use Rattle.frame_rows.specs.declared.class.Use.{Use}
use Rattle.frame_rows.specs.declared.field.Field.{Field}
use Rattle.frame_rows.specs.declared.field.Values.{Values}
use Rattle.frame_rows.specs.declared.row.Row.{Row}
use Rattle.frame_rows.specs.declared.rows.Rows.{Rows}
use Rattle.frame_rows.specs.Field.{fields, place_of}
use Rattle.frame_rows.specs.Row.{class_of_row, first_row, passes}
use Rattle.frame_rows.specs.Sight.{Side, rows_apart, seen_apart}
use Rattle.frame_rows.proofs.ChosenRows.{find_passes}
use Rattle.frame_rows.proofs.Means.{found_has}
use Rattle.frame_classes.specs.declared.found.Sample.{Sample}
use Rattle.frame_classes.specs.declared.told.Told.{Told}
use Rattle.frame_classes.specs.declared.told.Told.TheVariants.{Three}
use Rattle.frame_classes.specs.Choices.{test_at}
use Rattle.frame_classes.specs.Left.{AreLeftOf, is_of, rows_at, rows_of_side}
use Rattle.frame_classes.specs.Settled.{asks_nothing}
use Rattle.frame_classes.specs.Silent.{AreAlikeUntil, AreAllAlike, AreSeenAlike, AreSought, IsQuiet, is_used_at}
use Rattle.frame_classes.specs.Splitting.{Agree, AreAllFound}
use Rattle.frame_classes.specs.Told.{class_at, classes_at, is_shown, is_wanted, rows_of_all, same_use, side_by, three_of, told_by}
use Rattle.frame_classes.proofs.Changed.{passes_same}
use Rattle.frame_classes.proofs.FirstRows.{at_get, if_some}
use Rattle.frame_classes.proofs.Levels.{earlier}
use Rattle.frame_classes.proofs.Silent.{alike_apart}
use Rattle.frame_classes.proofs.Sought.{of_filtered, row_of, shown}
use Rattle.frame_classes.proofs.Staying.{behind_nothing, passes_all, passes_parts}

-- ---- rows at places

abbrev At : List Row → (Row → Type 0) → ℕ → Type 0
At rows P place = (row : Row) → slice_get rows place ≡ Some row → P row

abbrev both_at : List Row → (ℕ → Bool) → (Row → Bool) → ℕ → Bool
both_at rows kept test place = kept place && test_at test false rows place

-- what holds of the row at each place that passes holds of each row that passes a test
abbrev OfTested : List Row → (ℕ → Bool) → (Row → Bool) → (Row → Type 0) → List ℕ → Type 0
OfTested rows kept test P places =
    All (At rows P) (filter (both_at rows kept test) places) → All (λ row. test row ≡ true → P row) (rows_at rows (filter kept places))

of_tested : (rows : List Row) (kept : ℕ → Bool) (test : Row → Bool) (P : Row → Type 0) (places : List ℕ) → OfTested rows kept test P places
of_tested rows kept test P [] h = All-nil (λ row. test row ≡ true → P row)
of_tested rows kept test P (place ∷ rest) h = by_kept (of_tested rows kept test P rest) (kept place) refl (slice_get rows place) refl
  where
    by_test : OfTested rows kept test P rest → (row : Row) → kept place ≡ true → slice_get rows place ≡ Some row → (b : Bool) → test row ≡ b
        → (test row ≡ true → P row) × All (λ row. test row ≡ true → P row) (rows_at rows (filter kept rest))
    by_test later row is at true tests =
        let all : All (At rows P) (place ∷ filter (both_at rows kept test) rest) = rw (is, at, tests) at h in (
          λ t. All-head (At rows P) place (filter (both_at rows kept test) rest) all row at,
          later (All-tail (At rows P) place (filter (both_at rows kept test) rest) all),
        )
    by_test later row is at false tests =
        let all : All (At rows P) (filter (both_at rows kept test) rest) = rw (is, at, tests) at h in (
          λ t. absurd (true≢false (sym t ∙ tests)),
          later all,
        )

    by_kept : OfTested rows kept test P rest → (b : Bool) → kept place ≡ b → (o : Option Row) → slice_get rows place ≡ o
        → All (λ row. test row ≡ true → P row) (rows_at rows (filter kept (place ∷ rest)))
    by_kept later false is o at =
        let all : All (At rows P) (filter (both_at rows kept test) rest) = rw is at h in
        rw is (later all)
    by_kept later true is None at =
        let all : All (At rows P) (filter (both_at rows kept test) rest) = rw (is, at) at h in
        rw (is, at) (later all)
    by_kept later true is (Some row) at =
        let parts = by_test later row is at (test row) refl in
        rw (is, at) (All-cons (λ row. test row ≡ true → P row) row (rows_at rows (filter kept rest)) parts.0 parts.1)

-- ---- a row by which frames are told of

-- the first row of some that passes all fields is one of those that pass the first fields
pub passing : (rows : List Row) (level : ℕ) (values others : Values) (row : Row) (P : Row → Type 0) → Agree level values others
    → first_row rows others ≡ Some row → All P (filter (λ row. passes (take level fields) row values) rows) → P row
passing rows level values others row P agree first all =
    let passing : passes fields row others ≡ true = find_passes (λ row. passes fields row others) rows row first in
    let start : passes (take level fields) row others ≡ true =
    (and_parts (passes (take level fields) row others) (passes (drop level fields) row others) (sym (passes_parts level row others) ∙ passing)).0 in
    let start' : passes (take level fields) row values ≡ true = passes_same (take level fields) row level values others (earlier level) agree ∙ start in
    found_has (λ row. passes (take level fields) row values ≡ true → P row) (λ row. passes fields row others) rows row
    (of_filtered P (λ row. passes (take level fields) row values) rows all) first start'

-- and up to it rows see frames alike
pub until : (rows : List Row) (field : Field) (values others : Values) (here other : Side) (row row' : Row) → Agree (place_of field) values others
    → AreAlikeUntil field here other row (filter (λ r. passes (take (place_of field) fields) r values) rows) → first_row rows others ≡ Some row'
    → AreSeenAlike here other row row'
until [] field values others here other row row' agree alike first = absurd (no_row row' first)
  where
    no_row : (r : Row) → None ≡ Some r → ⊥
    no_row r e = cc
until (r ∷ rest) field values others here other row row' agree alike first =
    by_start (passes (take (place_of field) fields) r values) refl (until rest field values others here other row row' agree)
  where
    start_same : passes (take (place_of field) fields) r others ≡ passes (take (place_of field) fields) r values
    start_same = sym (passes_same (take (place_of field) fields) r (place_of field) values others (earlier (place_of field)) agree)

    fails : {a : Bool} (b : Bool) → a ≡ false → (a && b) ≡ false
    fails b p = rw p refl

    both : {a b : Bool} → a ≡ true → b ≡ true → (a && b) ≡ true
    both p q = rw (p, q) refl

    some_row : (one other : Row) → Some one ≡ Some other → one ≡ other
    some_row one other e = cc

    by_start : (b : Bool) → passes (take (place_of field) fields) r values ≡ b
        → (AreAlikeUntil field here other row (filter (λ r. passes (take (place_of field) fields) r values) rest) → first_row rest others ≡ Some row'
        → AreSeenAlike here other row row')
        → AreSeenAlike here other row row'
    by_start false is later =
        let none : passes fields r others ≡ false =
        passes_parts (place_of field) r others ∙ fails (passes (drop (place_of field) fields) r others) (start_same ∙ is) in
        later (rw is at alike) (rw none at first)
    by_start true is later = by_all (passes fields r others) refl (rw is at alike)
      where
        by_all : (b : Bool) → passes fields r others ≡ b
            → AreSeenAlike here other row r × (asks_nothing r field ≡ false
            → AreAlikeUntil field here other row (filter (λ r. passes (take (place_of field) fields) r values) rest))
            → AreSeenAlike here other row row'
        by_all true all parts = subst (AreSeenAlike here other row) (some_row r row' (rw all at first)) parts.0
        by_all false none parts = later (parts.1 (asks (asks_nothing r field) refl)) (rw none at first)
          where
            asks : (b : Bool) → asks_nothing r field ≡ b → asks_nothing r field ≡ false
            asks false is_asked = is_asked
            asks true nothing =
                let end = passes_all (drop (place_of field) fields) r others (behind_nothing r field nothing) in
                let all : passes fields r others ≡ true = passes_parts (place_of field) r others ∙ both (start_same ∙ is) end in
                absurd (true≢false (sym all ∙ none))

-- ---- nothing is told

abbrev Until : List Side → List ℕ → Field → ℕ → Side → Side → Row → Type 0
Until sides left field n here other row = AreAlikeUntil field here other row (rows_at (rows_of_all sides) (filter (is_of sides n) left))

-- by the rows of the one between and of another one, frames that are looked for are seen alike
seen_alike : (sides : List Side) (here other : Side) (n : ℕ) (used : Use) (field : Field) (values others : Values) (left : List ℕ) (row row' : Row)
    → AreLeftOf sides (take (place_of field) fields) values left → Agree (place_of field) values others → rows_of_side sides 1 ≡ here.rows
    → rows_of_side sides n ≡ other.rows
    → AreAllAlike sides (rows_of_all sides) left (filter (is_used_at sides used) left) field n here other
    → first_row here.rows others ≡ Some row → same_use row.used used ≡ true → first_row other.rows others ≡ Some row' → AreSeenAlike here other row row'
seen_alike sides here other n used field values others left row row' are agree at at' alike first is first' =
    until other.rows field values others here other row row' agree
    (subst (AreAlikeUntil field here other row) (are.each n ∙ ap (filter (λ row. passes (take (place_of field) fields) row values)) at')
    (passing here.rows (place_of field) values others row (λ row. same_use row.used used ≡ true → Until sides left field n here other row) agree first
    (subst (All (λ row. same_use row.used used ≡ true → Until sides left field n here other row))
    (are.each 1 ∙ ap (filter (λ row. passes (take (place_of field) fields) row values)) at)
    (of_tested (rows_of_all sides) (is_of sides 1) (λ row. same_use row.used used) (Until sides left field n here other) left alike))
    is))
    first'

-- so they aren't seen apart
not_apart : (sides : List Side) (here other : Side) (n : ℕ) (used : Use) (field : Field) (values others : Values) (left : List ℕ) (class class' : FrameClass)
    → AreLeftOf sides (take (place_of field) fields) values left → Agree (place_of field) values others → rows_of_side sides 1 ≡ here.rows → rows_of_side sides n ≡ other.rows
    → AreAllAlike sides (rows_of_all sides) left (filter (is_used_at sides used) left) field n here other
    → class_at here others ≡ Some class → same_use class.used used ≡ true → class_at other others ≡ Some class' → seen_apart false here other others ≡ false
not_apart sides here other n used field values others left class class' are agree at at' alike is same is' =
    by_rows (row_of (first_row here.rows others) (λ row. class_of_row here.endings row others) class is)
    (row_of (first_row other.rows others) (λ row. class_of_row other.endings row others) class' is')
  where
    by_rows : (row : Row) × ((first_row here.rows others ≡ Some row) × (class_of_row here.endings row others ≡ class))
        → (row' : Row) × ((first_row other.rows others ≡ Some row') × (class_of_row other.endings row' others ≡ class'))
        → seen_apart false here other others ≡ false
    by_rows (row, (first, gives)) (row', (first', gives')) =
        ap (λ (o : Option Row). rows_apart false here other others o (first_row other.rows others)) first
        ∙ ap (rows_apart false here other others (Some row)) first'
        ∙ alike_apart false here other row row' others
        (seen_alike sides here other n used field values others left row row' are agree at at' alike first
        (ap (λ (c : FrameClass). same_use c.used used) gives ∙ same) first')

none_some : (told : Told) → None ≡ Some told → ⊥
none_some told e = cc

hidden : (o : Option Told) (b : Bool) (told : Told) → b ≡ false → (if b then o else None) ≡ Some told → ⊥
hidden o true told is tells = true≢false is
hidden o false told is tells = none_some told tells

-- the classes by all three
three : (before here after : Option FrameClass) (told : Told) → three_of before here after ≡ Some told
    → (a : FrameClass) × ((b : FrameClass) × ((c : FrameClass) × ((before ≡ Some a) × ((here ≡ Some b) × ((after ≡ Some c) × (told ≡ Three a b c))))))
three None here after told is = absurd (none_some told is)
three (Some a) None after told is = absurd (none_some told is)
three (Some a) (Some b) None told is = absurd (none_some told is)
three (Some a) (Some b) (Some c) told is = (a, (b, (c, (refl, (refl, (refl, cc))))))

and_false : (x y : Bool) → x ≡ false → (x && y) ≡ false
and_false x y h = rw h refl

false_and : (x y : Bool) → y ≡ false → (x && y) ≡ false
false_and true y h = h
false_and false y h = refl

none_told : (before here after : Side) (used : Use) (field : Field) (values others : Values) (left : List ℕ) (told : Told)
    → AreLeftOf (before ∷ here ∷ after ∷ []) (take (place_of field) fields) values left → Agree (place_of field) values others
    → IsQuiet (before ∷ here ∷ after ∷ []) (rows_of_all (before ∷ here ∷ after ∷ [])) left (filter (is_used_at (before ∷ here ∷ after ∷ []) used) left) field
    → told_by (before ∷ here ∷ after ∷ []) others ≡ Some told → is_wanted (Some used) told ≡ true → ⊥
none_told before here after used field values others left told are agree quiet tells looked =
    by_classes (three (class_at before others) (class_at here others) (class_at after others) told
    (shown (is_shown sides others) (classes_at sides others) told tells)) quiet
  where
    sides : List Side
    sides = before ∷ here ∷ after ∷ []

    by_classes : (a : FrameClass) × ((b : FrameClass) × ((c : FrameClass) × ((class_at before others ≡ Some a) × ((class_at here others ≡ Some b)
        × ((class_at after others ≡ Some c) × (told ≡ Three a b c))))))
        → IsQuiet (before ∷ here ∷ after ∷ []) (rows_of_all (before ∷ here ∷ after ∷ [])) left (filter (is_used_at (before ∷ here ∷ after ∷ []) used) left) field → ⊥
    by_classes (a, (b, (c, (is_a, (is_b, (is_c, is)))))) (inl alike) =
        let same : same_use b.used used ≡ true = subst (λ (t : Told). is_wanted (Some used) t ≡ true) is looked in
        let apart = not_apart sides here before 0 used field values others left b a are agree (append-nil here.rows) (append-nil before.rows) alike is_b same is_a in
        hidden (classes_at sides others) (is_shown sides others) told
        (and_false (seen_apart false here before others) (seen_apart false here after others) apart) tells
    by_classes (a, (b, (c, (is_a, (is_b, (is_c, is)))))) (inr alike) =
        let same : same_use b.used used ≡ true = subst (λ (t : Told). is_wanted (Some used) t ≡ true) is looked in
        let apart = not_apart sides here after 2 used field values others left b c are agree (append-nil here.rows) (append-nil after.rows) alike is_b same is_c in
        hidden (classes_at sides others) (is_shown sides others) told
        (false_and (seen_apart false here before others) (seen_apart false here after others) apart) tells

by_three : (sides : List Side) (used : Use) (field : Field) (values others : Values) (left : List ℕ) (told : Told) → length sides ≡ 3
    → AreLeftOf sides (take (place_of field) fields) values left → Agree (place_of field) values others
    → IsQuiet sides (rows_of_all sides) left (filter (is_used_at sides used) left) field
    → told_by sides others ≡ Some told → is_wanted (Some used) told ≡ true → ⊥
by_three [] used field values others left told is are agree quiet tells looked = absurd (omega (arith, is))
by_three (a ∷ []) used field values others left told is are agree quiet tells looked = absurd (omega (arith, is))
by_three (a ∷ b ∷ []) used field values others left told is are agree quiet tells looked = absurd (omega (arith, is))
by_three (a ∷ b ∷ c ∷ []) used field values others left told is are agree quiet tells looked =
    none_told a b c used field values others left told are agree quiet tells looked
by_three (a ∷ b ∷ c ∷ d ∷ rest) used field values others left told is are agree quiet tells looked = absurd (omega (arith, is))

pub quiet_found : (sides : List Side) (rows : List Row) (wanted : Option Use) (least : ℕ) (field : Field) (level : ℕ) (values : Values) (left sought : List ℕ)
    (samples : List Sample) → rows ≡ rows_of_all sides → place_of field ≡ level → AreLeftOf sides (take (place_of field) fields) values left
    → AreSought sides wanted left sought → IsQuiet sides rows left sought field → AreAllFound sides wanted least level values samples
quiet_found sides rows wanted least field level values left sought samples together at are are_sought quiet =
    record {
      found = λ others told of agree tells looked.
          absurd (by_three sides are_sought.used field values others left told are_sought.three are (rw at agree)
          (rw (← together, ← are_sought.places) quiet)
          tells (subst (λ (w : Option Use). is_wanted w told ≡ true) are_sought.is looked));
    }

-- ---- by what code compares

abbrev BothSides : List Rows → List Row → List ℕ → List ℕ → Field → ℕ → Type 0
BothSides sides rows left sought field n =
    IfSome (slice_get sides 1) (λ s. IfSome (slice_get sides n) (λ t. AreAllAlike (map side_by sides) rows left sought field n (side_by s) (side_by t)))

pub quiet_before : (sides : List Rows) (rows : List Row) (left sought : List ℕ) (field : Field) → length sides ≡ 3 → BothSides sides rows left sought field 0
    → IsQuiet (map side_by sides) rows left sought field
quiet_before [] rows left sought field three h = absurd (omega arith)
quiet_before (a ∷ []) rows left sought field three h = absurd (omega arith)
quiet_before (a ∷ b ∷ []) rows left sought field three h = absurd (omega arith)
quiet_before (a ∷ b ∷ c ∷ rest) rows left sought field three h = inl h

pub quiet_after : (sides : List Rows) (rows : List Row) (left sought : List ℕ) (field : Field) → length sides ≡ 3 → BothSides sides rows left sought field 2
    → IsQuiet (map side_by sides) rows left sought field
quiet_after [] rows left sought field three h = absurd (omega arith)
quiet_after (a ∷ []) rows left sought field three h = absurd (omega arith)
quiet_after (a ∷ b ∷ []) rows left sought field three h = absurd (omega arith)
quiet_after (a ∷ b ∷ c ∷ rest) rows left sought field three h = inr h

pub both_along : (sides : List Rows) (rows : List Row) (left sought : List ℕ) (field : Field) (n : ℕ) (x y : Rows) → ((d : Rows) → x ≡ get_or sides 1 d)
    → ((d : Rows) → y ≡ get_or sides n d) → AreAllAlike (map side_by sides) rows left sought field n (side_by x) (side_by y) → BothSides sides rows left sought field n
both_along sides rows left sought field n x y is is' alike =
    if_some (λ (s : Rows). IfSome (slice_get sides n) (λ t. AreAllAlike (map side_by sides) rows left sought field n (side_by s) (side_by t))) (slice_get sides 1) (λ s there.
    if_some (λ (t : Rows). AreAllAlike (map side_by sides) rows left sought field n (side_by s) (side_by t)) (slice_get sides n) (λ t there'.
    along x s y t (is s ∙ at_get sides 1 s there) (is' t ∙ at_get sides n t there') alike))
  where
    along : (x s y t : Rows) → x ≡ s → y ≡ t → AreAllAlike (map side_by sides) rows left sought field n (side_by x) (side_by y)
        → AreAllAlike (map side_by sides) rows left sought field n (side_by s) (side_by t)
    along x s y t e e' h = rw (← e, ← e') h

-- the places of the rows that are looked for, if some are
pub is_there : (sides : List Side) (wanted : Option Use) (left : List ℕ) (sought : Option (List ℕ)) (places : List ℕ) → sought ≡ Some places
    → IfSome sought (AreSought sides wanted left) → AreSought sides wanted left places
is_there sides wanted left sought places is h = subst (λ (o : Option (List ℕ)). IfSome o (AreSought sides wanted left)) is h

-- then there are three sides
pub all_three : (sides : List Rows) (wanted : Option Use) (left : List ℕ) (sought : Option (List ℕ)) → IfSome sought (AreSought (map side_by sides) wanted left)
    → IfSome sought (λ (places : List ℕ). length sides ≡ 3)
all_three sides wanted left None h = tt
all_three sides wanted left (Some places) h = omega (arith, length-map sides side_by, h.three)
