-- Where the frames of one use alone are looked for, rows that no such frame has tell nothing.
use Rattle.std.proofs.Common.{◌≡◌, ◌<◌, ◌≤◌, ◌&&◌, ◌||◌, ◌==◌, ℕ, Bool, true, false, not, List, [], ◌∷◌, Option, Some, None, if◌then◌else◌, arith, refl, ap, sym, subst, filter, get_or, length, min, take, ◌∙◌}
use Rattle.std.specs.Prelude.{All, IsTrue, find, nat_le}
use Rattle.std.specs.List.{list_all, list_any}
use Rattle.std.specs.Option.{option_map}
use Rattle.std.proofs.lemmas.Bool.{and_from, and_parts, eq-eqb, eqb-true, le-leb, leb-true, true≢false}
use Rattle.std.specs.List.{count_by}
use Rattle.std.proofs.lemmas.List.{length-take}
use Rattle.std.proofs.lemmas.List.Elements.{All-filter}
use Rattle.std.proofs.lemmas.List.Sums.{count_by-le-length, length-filter}
use Rattle.tag_view.specs.Tag.{is_tag_type}
use Rattle.vlan_rule.specs.declared.filter.EthertypeFilter.{EthertypeFilter}
use Rattle.vlan_rule.specs.declared.filter.TpidFilter.{TpidFilter}
use Rattle.vlan_rule.specs.Choice.{has_type}
use Rattle.frame_rows.specs.declared.ask.Ask.{Ask}
use Rattle.frame_rows.specs.declared.ask.Ask.TheVariants.{Any, Exactly, Between, TagType, NoTagType, Ethertype}
use Rattle.frame_rows.specs.declared.class.FrameClass.{FrameClass}
use Rattle.frame_rows.specs.declared.class.Use.{Use}
use Rattle.frame_rows.specs.declared.field.Field.{Field}
use Rattle.frame_rows.specs.declared.field.Values.{Values}
use Rattle.frame_rows.specs.declared.row.Row.{Row}
use Rattle.frame_rows.specs.Ask.{admits, is_tpid}
use Rattle.frame_rows.specs.Field.{fields, value_at}
use Rattle.frame_rows.specs.Row.{ask_at, class_of_row, first_row, passes, row_admits}
use Rattle.frame_rows.specs.Fits.{row_fits}
use Rattle.frame_rows.specs.Rows.{IsMarked}
use Rattle.frame_rows.specs.Sight.{Side, rows_apart, seen_apart}
use Rattle.frame_rows.proofs.ChosenRows.{find_passes}
use Rattle.frame_classes.specs.declared.found.Sample.{Sample}
use Rattle.frame_classes.specs.declared.told.Told.{Told}
use Rattle.frame_classes.specs.Beside.{SideFits, SideMarks}
use Rattle.frame_classes.specs.Meeting.{may_meet, meets_use, met, rows_meet}
use Rattle.frame_classes.specs.Splitting.{AreTold}
use Rattle.frame_classes.specs.Told.{class_at, classes_at, is_shown, is_wanted, same_use, three_of, told_by}
use Rattle.frame_classes.proofs.Sought.{between, row_of, shown}

-- ---- what is asked

no_tag : (input input' v : ℕ) (filter : TpidFilter) (type : EthertypeFilter) → (is_tag_type input v && is_tpid filter input v) ≡ true
    → (not (is_tag_type input' v) && has_type type v) ≡ true → not (input == input') ≡ true
no_tag input input' v filter type tag none = by_same (input == input') refl
  where
    not_true : (b : Bool) → b ≡ true → not b ≡ true → ⊥
    not_true true is other = true≢false (sym other)
    not_true false is other = true≢false (sym is)

    by_same : (b : Bool) → (input == input') ≡ b → not b ≡ true
    by_same false is = refl
    by_same true is =
        let begins = (and_parts (is_tag_type input v) (is_tpid filter input v) tag).0 in
        let begins' = ap (λ (i : ℕ). is_tag_type i v) (sym (eqb-true input input' is)) ∙ begins in
        absurd (not_true (is_tag_type input' v) begins' (and_parts (not (is_tag_type input' v)) (has_type type v) none).0)

-- a value that is as both ask says so
asks_meet : (one other : Ask) (v : ℕ) → admits one v ≡ true → admits other v ≡ true → may_meet one other ≡ true
asks_meet Any other v h h' = refl
asks_meet (Exactly value) Any v h h' = refl
asks_meet (Exactly value) (Exactly other) v h h' = eq-eqb value other (sym (eqb-true v value h) ∙ eqb-true v other h')
asks_meet (Exactly value) (Between least most) v h h' = refl
asks_meet (Exactly value) (TagType input filter) v h h' = refl
asks_meet (Exactly value) (NoTagType input type) v h h' = refl
asks_meet (Exactly value) (Ethertype type) v h h' = refl
asks_meet (Between least most) Any v h h' = refl
asks_meet (Between least most) (Exactly other) v h h' = refl
asks_meet (Between least most) (Between least' most') v h h' =
    let one = and_parts (nat_le least v) (nat_le v most) h in
    let other = and_parts (nat_le least' v) (nat_le v most') h' in
    and_from (nat_le least most') (nat_le least' most) (le-leb least most' (omega (arith, leb-true least v one.0, leb-true v most' other.1)))
    (le-leb least' most (omega (arith, leb-true least' v other.0, leb-true v most one.1)))
asks_meet (Between least most) (TagType input filter) v h h' = refl
asks_meet (Between least most) (NoTagType input type) v h h' = refl
asks_meet (Between least most) (Ethertype type) v h h' = refl
asks_meet (TagType input filter) Any v h h' = refl
asks_meet (TagType input filter) (Exactly other) v h h' = refl
asks_meet (TagType input filter) (Between least most) v h h' = refl
asks_meet (TagType input filter) (TagType input' filter') v h h' = refl
asks_meet (TagType input filter) (NoTagType input' type) v h h' = no_tag input input' v filter type h h'
asks_meet (TagType input filter) (Ethertype type) v h h' = refl
asks_meet (NoTagType input type) Any v h h' = refl
asks_meet (NoTagType input type) (Exactly other) v h h' = refl
asks_meet (NoTagType input type) (Between least most) v h h' = refl
asks_meet (NoTagType input type) (TagType input' filter) v h h' = swapped (input == input') (input' == input) (same_either input input') (no_tag input' input v filter type h' h)
  where
    same_either : (a b : ℕ) → (a == b) ≡ true → (b == a) ≡ true
    same_either a b is = eq-eqb b a (sym (eqb-true a b is))

    swapped : (b c : Bool) → (b ≡ true → c ≡ true) → not c ≡ true → not b ≡ true
    swapped false c to other = refl
    swapped true true to other = absurd (true≢false (sym other))
    swapped true false to other = absurd (true≢false (sym (to refl)))
asks_meet (NoTagType input type) (NoTagType input' type') v h h' = refl
asks_meet (NoTagType input type) (Ethertype type') v h h' = refl
asks_meet (Ethertype type) other v h h' = refl

all_meet : (row other : Row) (values : Values) (some : List Field) → passes some row values ≡ true → passes some other values ≡ true
    → list_all (λ field. may_meet (ask_at row field) (ask_at other field)) some ≡ true
all_meet row other values [] h h' = refl
all_meet row other values (field ∷ rest) h h' =
    let one = and_parts (row_admits row field (value_at field values)) (passes rest row values) h in
    let two = and_parts (row_admits other field (value_at field values)) (passes rest other values) h' in
    and_from (may_meet (ask_at row field) (ask_at other field)) (list_all (λ field. may_meet (ask_at row field) (ask_at other field)) rest)
    (asks_meet (ask_at row field) (ask_at other field) (value_at field values) one.0 two.0) (all_meet row other values rest one.1 two.1)

-- ---- rows

-- a row of this use, among some, asks nothing else of these values
abbrev is_used : List Row → Use → Values → Bool
is_used rows used values = list_any (λ row. same_use row.used used && passes fields row values) rows

or_true : (a b : Bool) → b ≡ true → (a || b) ≡ true
or_true true b h = refl
or_true false b h = h

-- so each row that asks nothing else of them may have its frames
meets : (rows : List Row) (used : Use) (values : Values) (row : Row) → is_used rows used values ≡ true → passes fields row values ≡ true
    → meets_use rows used row ≡ true
meets [] used values row some passing = absurd (true≢false (sym some))
meets (other ∷ rest) used values row some passing =
    by_first (same_use other.used used && passes fields other values) refl some (λ later. meets rest used values row later passing)
  where
    by_first : (b : Bool) → (same_use other.used used && passes fields other values) ≡ b → (b || is_used rest used values) ≡ true
        → (is_used rest used values ≡ true → meets_use rest used row ≡ true) → meets_use (other ∷ rest) used row ≡ true
    by_first true is found later =
        let parts = and_parts (same_use other.used used) (passes fields other values) is in
        let here = and_from (same_use other.used used) (rows_meet row other) parts.0 (all_meet row other values fields passing parts.1) in
        ap (λ (b : Bool). b || meets_use rest used row) here
    by_first false is found later = or_true (same_use other.used used && rows_meet row other) (meets_use rest used row) (later found)

-- rows that are left out don't pass
find_filter : {X : Type 0} (p q : X → Bool) → ((x : X) → p x ≡ true → q x ≡ true) → (xs : List X) → find p (filter q xs) ≡ find p xs
find_filter p q all [] = refl
find_filter p q all (x ∷ xs) = by_kept (q x) refl (p x) refl (find_filter p q all xs)
  where
    by_kept : (b : Bool) → q x ≡ b → (c : Bool) → p x ≡ c → find p (filter q xs) ≡ find p xs → find p (filter q (x ∷ xs)) ≡ find p (x ∷ xs)
    by_kept true kept true passing later = rw (kept, passing) refl
    by_kept true kept false passing later = rw (kept, passing) later
    by_kept false kept true passing later = absurd (true≢false (sym (all x passing) ∙ kept))
    by_kept false kept false passing later = rw (kept, passing) later

-- a test that what is found passes, some of all pass
found_any : {X : Type 0} (p q : X → Bool) (xs : List X) (x : X) → find p xs ≡ Some x → q x ≡ true → list_any q xs ≡ true
found_any {X} p q [] x found is = absurd (none_some found)
  where
    none_some : None ≡ Some x → ⊥
    none_some e = cc
found_any {X} p q (y ∷ xs) x found is = by_first (p y) refl found (λ later. found_any p q xs x later is)
  where
    some_same : Some y ≡ Some x → y ≡ x
    some_same e = cc

    by_first : (b : Bool) → p y ≡ b → find p (y ∷ xs) ≡ Some x → (find p xs ≡ Some x → list_any q xs ≡ true) → list_any q (y ∷ xs) ≡ true
    by_first true has found later = ap (λ (b : Bool). b || list_any q xs) (ap q (some_same (rw has at found)) ∙ is)
    by_first false has found later = or_true (q y) (list_any q xs) (later (rw has at found))

any_kept : {X : Type 0} (p q : X → Bool) (xs : List X) → list_any q (filter p xs) ≡ true → list_any q xs ≡ true
any_kept p q [] some = some
any_kept p q (x ∷ xs) some = by_kept (p x) refl (any_kept p q xs) some
  where
    by_parts : (a b c : Bool) → (b ≡ true → c ≡ true) → (a || b) ≡ true → (a || c) ≡ true
    by_parts true b c to is = refl
    by_parts false b c to is = to is

    by_kept : (b : Bool) → p x ≡ b → (list_any q (filter p xs) ≡ true → list_any q xs ≡ true) → list_any q (filter p (x ∷ xs)) ≡ true → list_any q (x ∷ xs) ≡ true
    by_kept true has later some = by_parts (q x) (list_any q (filter p xs)) (list_any q xs) later (rw has at some)
    by_kept false has later some = or_true (q x) (list_any q xs) (later (rw has at some))

-- ---- sides

met_first : (rows : List Row) (used : Use) (values : Values) (side : Side) → is_used rows used values ≡ true
    → first_row (met rows used side).rows values ≡ first_row side.rows values
met_first rows used values side some =
    find_filter (λ row. passes fields row values) (meets_use rows used) (λ row passing. meets rows used values row some passing) side.rows

met_apart : (rows : List Row) (used : Use) (one other : Side) (values : Values) (row row' : Option Row)
    → rows_apart false (met rows used one) (met rows used other) values row row' ≡ rows_apart false one other values row row'
met_apart rows used one other values (Some row) (Some row') = refl
met_apart rows used one other values (Some row) None = refl
met_apart rows used one other values None row' = refl

met_seen : (rows : List Row) (used : Use) (values : Values) (one other : Side) → is_used rows used values ≡ true
    → seen_apart false (met rows used one) (met rows used other) values ≡ seen_apart false one other values
met_seen rows used values one other some =
    met_apart rows used one other values (first_row (met rows used one).rows values) (first_row (met rows used other).rows values)
    ∙ ap (λ (row : Option Row). rows_apart false one other values row (first_row (met rows used other).rows values)) (met_first rows used values one some)
    ∙ ap (λ (row : Option Row). rows_apart false one other values (first_row one.rows values) row) (met_first rows used values other some)

met_class : (rows : List Row) (used : Use) (values : Values) (side : Side) → is_used rows used values ≡ true
    → class_at (met rows used side) values ≡ class_at side values
met_class rows used values side some =
    ap (λ (row : Option Row). option_map (λ row. class_of_row side.endings row values) row) (met_first rows used values side some)

-- of three sides the same is told
met_told : (rows : List Row) (used : Use) (values : Values) (before here after : Side) → is_used rows used values ≡ true
    → told_by (met rows used before ∷ met rows used here ∷ met rows used after ∷ []) values ≡ told_by (before ∷ here ∷ after ∷ []) values
met_told rows used values before here after some =
    let first = met_seen rows used values here before some in
    let last = met_seen rows used values here after some in
    let one = met_class rows used values before some in
    let two = met_class rows used values here some in
    let three = met_class rows used values after some in
    ap (λ (b : Bool). if b && seen_apart false (met rows used here) (met rows used after) values then classes_at (met rows used before ∷ met rows used here ∷ met rows used after ∷ []) values else None) first
    ∙ ap (λ (b : Bool). if seen_apart false here before values && b then classes_at (met rows used before ∷ met rows used here ∷ met rows used after ∷ []) values else None) last
    ∙ ap (λ (c : Option FrameClass). if seen_apart false here before values && seen_apart false here after values
    then three_of c (class_at (met rows used here) values) (class_at (met rows used after) values) else None) one
    ∙ ap (λ (c : Option FrameClass). if seen_apart false here before values && seen_apart false here after values
    then three_of (class_at before values) c (class_at (met rows used after) values) else None) two
    ∙ ap (λ (c : Option FrameClass). if seen_apart false here before values && seen_apart false here after values
    then three_of (class_at before values) (class_at here values) c else None) three

-- what is told and looked for is of frames of that use
told_used : (before here after : Side) (used : Use) (values : Values) (told : Told) → told_by (before ∷ here ∷ after ∷ []) values ≡ Some told
    → is_wanted (Some used) told ≡ true → is_used here.rows used values ≡ true
told_used before here after used values told tells looked =
    by_class (between (class_at before values) (class_at here values) (class_at after values) told used
    (shown (is_shown (before ∷ here ∷ after ∷ []) values) (classes_at (before ∷ here ∷ after ∷ []) values) told tells) looked)
  where
    by_row : (class : FrameClass) → same_use class.used used ≡ true
        → (row : Row) × ((first_row here.rows values ≡ Some row) × (class_of_row here.endings row values ≡ class)) → is_used here.rows used values ≡ true
    by_row class same (row, (first, gives)) =
        found_any (λ row. passes fields row values) (λ row. same_use row.used used && passes fields row values) here.rows row first
        (and_from (same_use row.used used) (passes fields row values) (ap (λ (c : FrameClass). same_use c.used used) gives ∙ same)
        (find_passes (λ row. passes fields row values) here.rows row first))

    by_class : (class : FrameClass) × ((class_at here values ≡ Some class) × (same_use class.used used ≡ true)) → is_used here.rows used values ≡ true
    by_class (class, (is, same)) = by_row class same (row_of (first_row here.rows values) (λ row. class_of_row here.endings row values) class is)

pub told_met : (before here after : Side) (used : Use) (least : ℕ) (samples : List Sample)
    → AreTold (met here.rows used before ∷ met here.rows used here ∷ met here.rows used after ∷ []) (Some used) least samples
    → AreTold (before ∷ here ∷ after ∷ []) (Some used) least samples
told_met before here after used least samples are =
    record {
      samples_tell = λ k d h.
          let sample = are.samples_tell k d h in
          let values = (get_or samples k d).values in
          let some = told_used (met here.rows used before) (met here.rows used here) (met here.rows used after) used values (get_or samples k d).told sample.told
          (are.wanted_all k d h) in
          record {
            told =
                sym (met_told here.rows used values before here after
                (any_kept (meets_use here.rows used) (λ row. same_use row.used used && passes fields row values) here.rows some))
                ∙ sample.told;
            values = sample.values;
            fits = sample.fits;
          };
      wanted_all = are.wanted_all;
      every = λ others told of eleven tells looked.
          are.every others told of eleven (met_told here.rows used others before here after (told_used before here after used others told tells looked) ∙ tells) looked;
      ascend = are.ascend;
    }

pub met_fits : (rows : List Row) (used : Use) (side : Side) → SideFits side → SideFits (met rows used side)
met_fits rows used side fit = All-filter (meets_use rows used) (λ row. IsTrue (row_fits side.settings.input_tpid row)) side.rows fit

pub met_marks : (rows : List Row) (used : Use) (side : Side) → SideMarks side → SideMarks (met rows used side)
met_marks rows used side marks = All-filter (meets_use rows used) (IsMarked side.settings) side.rows marks

-- no more rows are kept than there are
pub kept_few : (p : Row → Bool) (rows kept : List Row) (i : ℕ) → kept ≡ filter p (take i rows) → length kept ≤ length rows
kept_few p rows kept i is =
    let count : length kept ≡ count_by p (take i rows) = ap length is ∙ length-filter p (take i rows) in
    let most : length (take i rows) ≡ min i (length rows) = length-take i rows in
    omega (arith, count, most, count_by-le-length p (take i rows))
