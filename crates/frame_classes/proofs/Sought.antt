-- Where no row that is left of the configuration between is one of the use that is looked for, nothing that is told is looked for.
use Rattle.std.proofs.Common.{◌≡◌, ◌&&◌, ◌||◌, ℕ, Bool, true, false, List, [], ◌∷◌, Option, Some, None, if◌then◌else◌, arith, refl, ap, sym, subst, drop, filter, length, take, ◌∙◌}
use Rattle.std.specs.Prelude.{All, IfSome, slice_get}
use Rattle.std.specs.List.{list_any}
use Rattle.std.specs.Option.{option_map, option_map_or}
use Rattle.std.proofs.lemmas.Bool.{and_parts, true≢false}
use Rattle.std.proofs.lemmas.List.{append-nil}
use Rattle.std.proofs.lemmas.List.Elements.{All-cons, All-head, All-nil, All-tail}
use Rattle.frame_rows.specs.declared.class.FrameClass.{FrameClass}
use Rattle.frame_rows.specs.declared.class.Use.{Use}
use Rattle.frame_rows.specs.declared.field.Values.{Values}
use Rattle.frame_rows.specs.declared.row.Row.{Row}
use Rattle.frame_rows.specs.Field.{fields}
use Rattle.frame_rows.specs.Row.{class_of_row, first_row, passes}
use Rattle.frame_rows.specs.Sight.{Side}
use Rattle.frame_rows.proofs.ChosenRows.{find_passes}
use Rattle.frame_rows.proofs.Means.{found_has}
use Rattle.frame_classes.specs.declared.found.Sample.{Sample}
use Rattle.frame_classes.specs.declared.told.Told.{Told}
use Rattle.frame_classes.specs.declared.told.Told.TheVariants.{Three}
use Rattle.frame_classes.specs.Choices.{test_at}
use Rattle.frame_classes.specs.Left.{AreLeftOf, is_of, rows_at}
use Rattle.frame_classes.specs.Silent.{AreSought, IsNotSought, is_used_at}
use Rattle.frame_classes.specs.Splitting.{Agree, AreAllFound}
use Rattle.frame_classes.specs.Told.{class_at, classes_at, is_shown, is_wanted, rows_of_all, same_use, three_of, told_by}
use Rattle.frame_classes.proofs.Changed.{passes_same}
use Rattle.frame_classes.proofs.Levels.{earlier}
use Rattle.frame_classes.proofs.Staying.{passes_parts}

-- ---- rows at places

or_parts : (a b : Bool) → (a || b) ≡ false → (a ≡ false) × (b ≡ false)
or_parts true b h = absurd (true≢false h)
or_parts false b h = (refl, h)

-- rows at the places that are kept fail a test that none passes
none_at : (rows : List Row) (test : Row → Bool) (kept : ℕ → Bool) (places : List ℕ)
    → list_any (λ place. kept place && test_at test false rows place) places ≡ false → All (λ row. test row ≡ false) (rows_at rows (filter kept places))
none_at rows test kept [] h = All-nil (λ row. test row ≡ false)
none_at rows test kept (place ∷ rest) h =
    let parts = or_parts (kept place && test_at test false rows place) (list_any (λ place. kept place && test_at test false rows place) rest) h in
    by_kept (kept place) refl (slice_get rows place) refl parts.0 (none_at rows test kept rest parts.1)
  where
    by_kept : (b : Bool) → kept place ≡ b → (o : Option Row) → slice_get rows place ≡ o → (kept place && test_at test false rows place) ≡ false
        → All (λ row. test row ≡ false) (rows_at rows (filter kept rest)) → All (λ row. test row ≡ false) (rows_at rows (filter kept (place ∷ rest)))
    by_kept false is o at here later = rw is later
    by_kept true is None at here later = rw (is, at) later
    by_kept true is (Some row) at here later = rw (is, at) (All-cons (λ row. test row ≡ false) row (rows_at rows (filter kept rest)) (rw (is, at) at here) later)

-- what holds of those that pass holds of each that passes
pub of_filtered : (P : Row → Type 0) (test : Row → Bool) (rows : List Row) → All P (filter test rows) → All (λ row. test row ≡ true → P row) rows
of_filtered P test [] h = All-nil (λ row. test row ≡ true → P row)
of_filtered P test (row ∷ rest) h = by_test (test row) refl (of_filtered P test rest)
  where
    false_true : false ≡ true → ⊥
    false_true e = true≢false (sym e)

    by_test : (b : Bool) → test row ≡ b → (All P (filter test rest) → All (λ row. test row ≡ true → P row) rest) → All (λ row. test row ≡ true → P row) (row ∷ rest)
    by_test true is later =
        let all : All P (row ∷ filter test rest) = rw is at h in
        All-cons (λ row. test row ≡ true → P row) row rest (λ passes. All-head P row (filter test rest) all) (later (All-tail P row (filter test rest) all))
    by_test false is later =
        let all : All P (filter test rest) = rw is at h in
        All-cons (λ row. test row ≡ true → P row) row rest (λ passes. absurd (false_true (sym is ∙ passes))) (later all)

-- ---- what is told

some_told : (one other : Told) → Some one ≡ Some other → one ≡ other
some_told one other e = cc

none_told : (told : Told) → None ≡ Some told → ⊥
none_told told e = cc

-- the class by the one between
pub between : (before here after : Option FrameClass) (told : Told) (used : Use) → three_of before here after ≡ Some told → is_wanted (Some used) told ≡ true
    → (class : FrameClass) × ((here ≡ Some class) × (same_use class.used used ≡ true))
between None here after told used is looked = absurd (none_told told is)
between (Some b) None after told used is looked = absurd (none_told told is)
between (Some b) (Some h) None told used is looked = absurd (none_told told is)
between (Some b) (Some h) (Some a) told used is looked =
    (h, (refl, subst (λ (t : Told). is_wanted (Some used) t ≡ true) (sym (some_told (Three b h a) told is)) looked))

-- and the row that gives it
pub row_of : (o : Option Row) (give : Row → FrameClass) (class : FrameClass) → option_map give o ≡ Some class → (row : Row) × ((o ≡ Some row) × (give row ≡ class))
row_of None give class is = absurd (none_class is)
  where
    none_class : None ≡ Some class → ⊥
    none_class e = cc
row_of (Some row) give class is = (row, (refl, some_class is))
  where
    some_class : Some (give row) ≡ Some class → give row ≡ class
    some_class e = cc

pub shown : (b : Bool) (told : Option Told) (some : Told) → (if b then told else None) ≡ Some some → told ≡ Some some
shown true told some is = is
shown false told some is = absurd (none_told some is)

none_sought : (before here after : Side) (used : Use) (level : ℕ) (values others : Values) (places : List ℕ) (told : Told)
    → AreLeftOf (before ∷ here ∷ after ∷ []) (take level fields) values places → Agree level values others
    → list_any (λ place. is_of (before ∷ here ∷ after ∷ []) 1 place
    && test_at (λ row. same_use row.used used) false (rows_of_all (before ∷ here ∷ after ∷ [])) place) places ≡ false
    → told_by (before ∷ here ∷ after ∷ []) others ≡ Some told → is_wanted (Some used) told ≡ true → ⊥
none_sought before here after used level values others places told left agree none tells looked =
    by_class (between (class_at before others) (class_at here others) (class_at after others) told used
    (shown (is_shown sides others) (classes_at sides others) told tells) looked)
  where
    sides : List Side
    sides = before ∷ here ∷ after ∷ []

    kept : All (λ row. same_use row.used used ≡ false) (filter (λ row. passes (take level fields) row values) here.rows)
    kept =
        subst (All (λ row. same_use row.used used ≡ false)) (left.each 1 ∙ ap (filter (λ row. passes (take level fields) row values)) (append-nil here.rows))
        (none_at (rows_of_all sides) (λ row. same_use row.used used) (is_of sides 1) places none)

    by_row : (class : FrameClass) → same_use class.used used ≡ true
        → (row : Row) × ((first_row here.rows others ≡ Some row) × (class_of_row here.endings row others ≡ class)) → ⊥
    by_row class same (row, (first, gives)) =
        let passing : passes fields row others ≡ true = find_passes (λ row. passes fields row others) here.rows row first in
        let start : passes (take level fields) row others ≡ true =
        (and_parts (passes (take level fields) row others) (passes (drop level fields) row others) (sym (passes_parts level row others) ∙ passing)).0 in
        let start' : passes (take level fields) row values ≡ true = passes_same (take level fields) row level values others (earlier level) agree ∙ start in
        let other = found_has (λ row. passes (take level fields) row values ≡ true → same_use row.used used ≡ false) (λ row. passes fields row others) here.rows row
        (of_filtered (λ row. same_use row.used used ≡ false) (λ row. passes (take level fields) row values) here.rows kept) first start' in
        true≢false (sym (ap (λ (c : FrameClass). same_use c.used used) gives ∙ same) ∙ other)

    by_class : (class : FrameClass) × ((class_at here others ≡ Some class) × (same_use class.used used ≡ true)) → ⊥
    by_class (class, (is, same)) = by_row class same (row_of (first_row here.rows others) (λ row. class_of_row here.endings row others) class is)

-- ---- a value that leads to none

any_filtered : (p q : ℕ → Bool) (xs : List ℕ) → list_any q (filter p xs) ≡ list_any (λ x. p x && q x) xs
any_filtered p q [] = refl
any_filtered p q (x ∷ xs) = by_first (p x) refl (any_filtered p q xs)
  where
    by_first : (b : Bool) → p x ≡ b → list_any q (filter p xs) ≡ list_any (λ x. p x && q x) xs → list_any q (filter p (x ∷ xs)) ≡ list_any (λ x. p x && q x) (x ∷ xs)
    by_first true is later = rw is (ap (λ (b : Bool). q x || b) later)
    by_first false is later = rw is later

any_swapped : (p q : ℕ → Bool) (xs : List ℕ) → list_any (λ x. p x && q x) xs ≡ list_any (λ x. q x && p x) xs
any_swapped p q [] = refl
any_swapped p q (x ∷ xs) =
    let here = and_swapped (p x) (q x) in
    let later = any_swapped p q xs in
    rw (here, later) refl
  where
    and_swapped : (a b : Bool) → (a && b) ≡ (b && a)
    and_swapped true true = refl
    and_swapped true false = refl
    and_swapped false true = refl
    and_swapped false false = refl

-- none of the rows that it leaves is of the use that is looked for
pub leads_to_none : (sides : List Side) (wanted : Option Use) (left sought : List ℕ) (test : ℕ → Bool) → AreSought sides wanted left sought
    → list_any test sought ≡ false → IsNotSought sides wanted (filter test left)
leads_to_none sides wanted left sought test are none =
    record {
      used = are.used;
      is = are.is;
      three = are.three;
      none =
          any_filtered test (is_used_at sides are.used) left ∙ any_swapped test (is_used_at sides are.used) left
          ∙ sym (any_filtered (is_used_at sides are.used) test left) ∙ ap (list_any test) (sym are.places) ∙ none;
    }

-- by what code looks at
pub not_led : {X : Type 0} (items : X → List ℕ) (sides : List Side) (wanted : Option Use) (left : List ℕ) (sought : Option X) (test : ℕ → Bool)
    → IfSome sought (λ places. AreSought sides wanted left (items places))
    → option_map_or (λ places. list_any test (items places)) sought true ≡ false → IsNotSought sides wanted (filter test left)
not_led items sides wanted left None test are none = absurd (true≢false none)
not_led items sides wanted left (Some places) test are none = leads_to_none sides wanted left (items places) test are none

-- ---- all that is told

pub not_sought : (sides : List Side) (wanted : Option Use) (least level : ℕ) (values : Values) (places : List ℕ) (samples : List Sample)
    → AreLeftOf sides (take level fields) values places → IsNotSought sides wanted places → AreAllFound sides wanted least level values samples
not_sought sides wanted least level values places samples left other =
    record { found = λ others told of agree tells looked. absurd (never sides others told left agree other.three other.none tells (subst (λ (w : Option Use). is_wanted w told ≡ true) other.is looked)) }
  where
    never : (all : List Side) (others : Values) (told : Told) → AreLeftOf all (take level fields) values places → Agree level values others → length all ≡ 3
        → list_any (λ place. is_of all 1 place && test_at (λ row. same_use row.used other.used) false (rows_of_all all) place) places ≡ false
        → told_by all others ≡ Some told → is_wanted (Some other.used) told ≡ true → ⊥
    never [] others told left agree three none tells looked = absurd (omega arith)
    never (a ∷ []) others told left agree three none tells looked = absurd (omega arith)
    never (a ∷ b ∷ []) others told left agree three none tells looked = absurd (omega arith)
    never (a ∷ b ∷ c ∷ []) others told left agree three none tells looked = none_sought a b c other.used level values others places told left agree none tells looked
    never (a ∷ b ∷ c ∷ d ∷ rest) others told left agree three none tells looked = absurd (omega arith)
