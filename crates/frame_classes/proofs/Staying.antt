-- Values by which two sides see frames otherwise, where the bytes that leave don't depend on a field, or alike for both.
use Rattle.std.proofs.Common.{◌≡◌, ℕ, ◌+◌, ◌<◌, ◌≤◌, ◌==◌, Bool, true, false, not, ◌||◌, ◌&&◌, List, [], ◌∷◌, Some, None, arith, refl, ap, sym, subst, drop, get_or, length, max, nat_lt, take, ◌⊎◌, inl, inr, ◌∙◌}
use Rattle.std.specs.Prelude.{All, IsTrue, find}
use Rattle.std.specs.List.{list_all}
use Rattle.std.proofs.lemmas.Bool.{and_parts, eqb-true, ltb-true, true≢false}
use Rattle.std.proofs.lemmas.List.{get_or-drop, get_or_default, length-drop, take-append-drop}
use Rattle.std.proofs.lemmas.List.Elements.{All-head, All-tail}
use Rattle.std.proofs.lemmas.List.Folds.{list_all-append}
use Rattle.std.proofs.lemmas.List.Sums.{AllPass-from_list_all}
use Rattle.tag_view.specs.Tag.{is_tag_type}
use Rattle.vlan_rule.specs.declared.treatment.Treatment.TheVariants as treatment
use Rattle.vlan_rule.specs.Meaning.{treatment_fits}
use Rattle.frame_rows.specs.declared.ask.Ask.{Ask}
use Rattle.frame_rows.specs.declared.ask.Ask.TheVariants.{Any, Exactly, Between, TagType, NoTagType, Ethertype}
use Rattle.frame_rows.specs.declared.class.Ending.{Ending}
use Rattle.frame_rows.specs.declared.class.Ending.TheVariants.{Gem, Dropped}
use Rattle.frame_rows.specs.declared.field.Field.{Field}
use Rattle.frame_rows.specs.declared.field.Field.TheVariants.{Length, FirstType, SecondType}
use Rattle.frame_rows.specs.declared.field.Values.{Values}
use Rattle.frame_rows.specs.declared.row.Ends.{Ends}
use Rattle.frame_rows.specs.declared.row.Ends.TheVariants as ends
use Rattle.frame_rows.specs.declared.row.Row.{Row}
use Rattle.frame_rows.specs.Ask.{admits, is_tpid}
use Rattle.frame_rows.specs.Field.{fields, place_of, value_at, with_value}
use Rattle.frame_rows.specs.Fits.{ask_fits, asks_tag, ends_fit, length_fits, marking_fits, row_fits, tags_fit}
use Rattle.frame_rows.specs.Source.{dscp_behind}
use Rattle.frame_rows.specs.Row.{ask_at, ending_of, first_row, passes, row_admits}
use Rattle.frame_rows.specs.Sight.{Side, endings_apart, same_tags, seen_apart}
use Rattle.frame_rows.proofs.ChosenRows.{find_passes}
use Rattle.frame_classes.specs.Settled.{are_added_alike, are_rows_settled, asks_nothing, copy_alike, is_any, is_dropped}
use Rattle.frame_classes.specs.Splitting.{Agree, IsNear}
use Rattle.frame_classes.proofs.Changed.{passes_same}
use Rattle.frame_classes.proofs.Choosing.{stays_apart}
use Rattle.frame_classes.proofs.Leaves.{at_field}
use Rattle.frame_classes.proofs.Frozen.{frozen}
use Rattle.frame_classes.proofs.Levels.{field_of, place_get}
use Rattle.frame_classes.proofs.Freezing.{frozen_apart}
use Rattle.frame_classes.proofs.Points.{settled_points}
use Rattle.frame_classes.proofs.Pairs.{IsPair, agree_at, seen_changed, seen_others}
use Rattle.frame_classes.proofs.Standing.{field_within}

-- ---- both of two

left_holds : (a b : Bool) → (a && b) ≡ true → a ≡ true
left_holds a b h = (and_parts a b h).0

right_holds : (a b : Bool) → (a && b) ≡ true → b ≡ true
right_holds a b h = (and_parts a b h).1

-- ---- types that begin no tag

-- a tag's type begins one
type_of_tag : (input : ℕ) (ask : Ask) (value : ℕ) → asks_tag input ask ≡ true → admits ask value ≡ true → is_tag_type input value ≡ true
type_of_tag input Any value h k = absurd (true≢false (sym h))
type_of_tag input (Exactly only) value h k = ap (is_tag_type input) (eqb-true value only k) ∙ h
type_of_tag input (Between least most) value h k = absurd (true≢false (sym h))
type_of_tag input (TagType type filter) value h k =
    ap (λ (n : ℕ). is_tag_type n value) (sym (eqb-true type input h)) ∙ left_holds (is_tag_type type value) (is_tpid filter type value) k
type_of_tag input (NoTagType type filter) value h k = absurd (true≢false (sym h))
type_of_tag input (Ethertype filter) value h k = absurd (true≢false (sym h))

-- what a row that passes admits
admits_at : (row : Row) (values : Values) (field : Field) → passes fields row values ≡ true → row_admits row field (value_at field values) ≡ true
admits_at row values field h =
    at_field (λ f. row_admits row f (value_at f values) ≡ true) (AllPass-from_list_all (λ f. row_admits row f (value_at f values)) fields h) field

-- what a row that fits says of its tags
tags_fit_at : (input : ℕ) (row : Row) → IsTrue (row_fits input row) → tags_fit input row ≡ true
tags_fit_at input row fits =
    left_holds (tags_fit input row) (treatment_fits (treatment.Retag row.retag))
    (right_holds (marking_fits row.marking) (tags_fit input row && treatment_fits (treatment.Retag row.retag))
    (right_holds (ends_fit row.ends) (marking_fits row.marking && (tags_fit input row && treatment_fits (treatment.Retag row.retag)))
    (right_holds (list_all (λ f. ask_fits input f (ask_at row f)) fields)
    (ends_fit row.ends && (marking_fits row.marking && (tags_fit input row && treatment_fits (treatment.Retag row.retag)))) fits)))

-- fewer tags are read than one whose type begins none
few_if : (input tags count : ℕ) (ask : Ask) (value : ℕ) → (nat_lt tags count || asks_tag input ask) ≡ true → admits ask value ≡ true
    → is_tag_type input value ≡ false → tags < count
few_if input tags count ask value h k no_tag = by_few (nat_lt tags count) refl h
  where
    by_few : (b : Bool) → nat_lt tags count ≡ b → (b || asks_tag input ask) ≡ true → tags < count
    by_few true is h = ltb-true tags count is
    by_few false is h = absurd (true≢false (sym (type_of_tag input ask value h k) ∙ no_tag))

no_first : (input : ℕ) (row : Row) (others : Values) → IsTrue (row_fits input row) → passes fields row others ≡ true
    → is_tag_type input (value_at FirstType others) ≡ false → row.tags < 1
no_first input row others fits passes no_tag =
    few_if input row.tags 1 (ask_at row FirstType) (value_at FirstType others)
    (left_holds (nat_lt row.tags 1 || asks_tag input (ask_at row FirstType))
    ((nat_lt row.tags 2 || asks_tag input (ask_at row SecondType)) && length_fits row.ends row.tags (ask_at row Length))
    (right_holds (nat_lt row.tags 3)
    ((nat_lt row.tags 1 || asks_tag input (ask_at row FirstType))
    && ((nat_lt row.tags 2 || asks_tag input (ask_at row SecondType)) && length_fits row.ends row.tags (ask_at row Length))) (tags_fit_at input row fits)))
    (admits_at row others FirstType passes) no_tag

no_second : (input : ℕ) (row : Row) (others : Values) → IsTrue (row_fits input row) → passes fields row others ≡ true
    → is_tag_type input (value_at SecondType others) ≡ false → row.tags < 2
no_second input row others fits passes no_tag =
    few_if input row.tags 2 (ask_at row SecondType) (value_at SecondType others)
    (left_holds (nat_lt row.tags 2 || asks_tag input (ask_at row SecondType)) (length_fits row.ends row.tags (ask_at row Length))
    (right_holds (nat_lt row.tags 1 || asks_tag input (ask_at row FirstType))
    ((nat_lt row.tags 2 || asks_tag input (ask_at row SecondType)) && length_fits row.ends row.tags (ask_at row Length))
    (right_holds (nat_lt row.tags 3)
    ((nat_lt row.tags 1 || asks_tag input (ask_at row FirstType))
    && ((nat_lt row.tags 2 || asks_tag input (ask_at row SecondType)) && length_fits row.ends row.tags (ask_at row Length))) (tags_fit_at input row fits))))
    (admits_at row others SecondType passes) no_tag

-- a field of that place
field_one : (P : Field → Type 0) (field : Field) → place_of field ≡ 1 → P field → P FirstType
field_one P field is h = subst P (field_of field ∙ ap (λ (n : ℕ). by_place n) is) h
  where
    by_place : ℕ → Field
    by_place n = get_or fields n Length

field_two : (P : Field → Type 0) (field : Field) → place_of field ≡ 2 → P field → P SecondType
field_two P field is h = subst P (field_of field ∙ ap (λ (n : ℕ). by_place n) is) h
  where
    by_place : ℕ → Field
    by_place n = get_or fields n Length

-- none of a side's
abbrev pub no_tag_of : Side → Field → ℕ → Type 0
no_tag_of side field value = (is_tag_type side.settings.input_tpid value ≡ false) ⊎ ((place_of field ≡ 0) ⊎ (place_of field ≡ 3))

few_first : (side : Side) (field : Field) (others : Values) (row : Row) → IsTrue (row_fits side.settings.input_tpid row)
    → first_row side.rows others ≡ Some row → no_tag_of side field (value_at field others) → place_of field ≡ 1 → row.tags < 1
few_first side field others row fits is (inl none) at =
    no_first side.settings.input_tpid row others fits (find_passes (λ row. passes fields row others) side.rows row is)
    (field_one (λ f. is_tag_type side.settings.input_tpid (value_at f others) ≡ false) field at none)
few_first side field others row fits is (inr (inl first)) at = absurd (omega arith)
few_first side field others row fits is (inr (inr third)) at = absurd (omega arith)

few_second : (side : Side) (field : Field) (others : Values) (row : Row) → IsTrue (row_fits side.settings.input_tpid row)
    → first_row side.rows others ≡ Some row → no_tag_of side field (value_at field others) → place_of field ≡ 2 → row.tags < 2
few_second side field others row fits is (inl none) at =
    no_second side.settings.input_tpid row others fits (find_passes (λ row. passes fields row others) side.rows row is)
    (field_two (λ f. is_tag_type side.settings.input_tpid (value_at f others) ≡ false) field at none)
few_second side field others row fits is (inr (inl first)) at = absurd (omega arith)
few_second side field others row fits is (inr (inr third)) at = absurd (omega arith)

-- the bytes that leave don't depend on such a field
agree_apart : (one other : Side) (field : Field) (others : Values) (row row' : Row) (c : ℕ) → IsPair one other others row row' → place_of field < 4
    → no_tag_of one field (value_at field others) → no_tag_of other field (value_at field others)
    → agree_at one other field others row row' c ≡ agree_at one other field others row row' (value_at field others)
agree_apart one other field others row row' c pair early none none' =
    rw (
      here one row c none pair.fit pair.first first second,
      here other row' c none' pair.fit' pair.second first' second',
      here one row (value_at field others) none pair.fit pair.first first second,
      here other row' (value_at field others) none' pair.fit' pair.second first' second',
    ) refl
  where
    first : place_of field ≡ 1 → (max row.tags row'.tags ≡ 0) × (row.tags ≡ 0)
    first at =
        let a = few_first one field others row pair.fit pair.first none at in
        let b = few_first other field others row' pair.fit' pair.second none' at in
        (omega arith, omega arith)

    first' : place_of field ≡ 1 → (max row.tags row'.tags ≡ 0) × (row'.tags ≡ 0)
    first' at =
        let a = few_first one field others row pair.fit pair.first none at in
        let b = few_first other field others row' pair.fit' pair.second none' at in
        (omega arith, omega arith)

    second : place_of field ≡ 2 → (max row.tags row'.tags ≤ 1) × (row.tags ≤ 1)
    second at =
        let a = few_second one field others row pair.fit pair.first none at in
        let b = few_second other field others row' pair.fit' pair.second none' at in
        (omega arith, omega arith)

    second' : place_of field ≡ 2 → (max row.tags row'.tags ≤ 1) × (row'.tags ≤ 1)
    second' at =
        let a = few_second one field others row pair.fit pair.first none at in
        let b = few_second other field others row' pair.fit' pair.second none' at in
        (omega arith, omega arith)

    here : (side : Side) (r : Row) (x : ℕ) → no_tag_of side field (value_at field others) → IsTrue (row_fits side.settings.input_tpid r)
        → first_row side.rows others ≡ Some r → (place_of field ≡ 1 → (max row.tags row'.tags ≡ 0) × (r.tags ≡ 0))
        → (place_of field ≡ 2 → (max row.tags row'.tags ≤ 1) × (r.tags ≤ 1))
        → frozen side.settings (max row.tags row'.tags) r (dscp_behind r.tags others) (with_value field x others)
        ≡ frozen side.settings (max row.tags row'.tags) r (dscp_behind r.tags others) others
    here side r x none fit is one two = frozen_apart side.settings (max row.tags row'.tags) r (dscp_behind r.tags others) field others x early one two

pub stays_by_apart : (reasons : Bool) (one other : Side) (field : Field) (others : Values) (row row' : Row) (c : ℕ) → IsPair one other others row row'
    → place_of field < 4 → no_tag_of one field (value_at field others) → no_tag_of other field (value_at field others)
    → IsNear one.rows fields (with_value field c others) others → IsNear other.rows fields (with_value field c others) others
    → seen_apart reasons one other others ≡ true → seen_apart reasons one other (with_value field c others) ≡ true
stays_by_apart reasons one other field others row row' c pair early none none' near near' =
    stays_apart reasons one other field others row row' c pair near near' (λ h. sym (agree_apart one other field others row row' c pair early none none') ∙ h)

-- ---- rows that are settled

-- the first row that passes before a field and asks nothing from it on is the first that passes
pub passes_parts : (place : ℕ) (row : Row) (values : Values)
    → passes fields row values ≡ (passes (take place fields) row values && passes (drop place fields) row values)
passes_parts place row values =
    ap (λ (all : List Field). passes all row values) (sym (take-append-drop place fields))
    ∙ list_all-append (λ f. row_admits row f (value_at f values)) (take place fields) (drop place fields)

any_admits : (ask : Ask) (value : ℕ) → is_any ask ≡ true → admits ask value ≡ true
any_admits Any value h = refl
any_admits (Exactly only) value h = absurd (true≢false (sym h))
any_admits (Between least most) value h = absurd (true≢false (sym h))
any_admits (TagType input filter) value h = absurd (true≢false (sym h))
any_admits (NoTagType input filter) value h = absurd (true≢false (sym h))
any_admits (Ethertype filter) value h = absurd (true≢false (sym h))

nothing_at : (row : Row) (field later : Field) → asks_nothing row field ≡ true → place_of field ≤ place_of later → is_any (ask_at row later) ≡ true
nothing_at row field later h behind =
    by_place (nat_lt (place_of later) (place_of field)) refl
    (at_field (λ f. (nat_lt (place_of f) (place_of field) || is_any (ask_at row f)) ≡ true)
    (AllPass-from_list_all (λ f. nat_lt (place_of f) (place_of field) || is_any (ask_at row f)) fields h) later)
  where
    by_place : (b : Bool) → nat_lt (place_of later) (place_of field) ≡ b → (nat_lt (place_of later) (place_of field) || is_any (ask_at row later)) ≡ true
        → is_any (ask_at row later) ≡ true
    by_place true is k = let less : place_of later < place_of field = ltb-true (place_of later) (place_of field) is in absurd (omega arith)
    by_place false is k = rw is at k

pub passes_all : (some : List Field) (row : Row) (values : Values) → All (λ f. is_any (ask_at row f) ≡ true) some → passes some row values ≡ true
passes_all [] row values h = refl
passes_all (f ∷ rest) row values h =
    let here = any_admits (ask_at row f) (value_at f values) (All-head (λ f. is_any (ask_at row f) ≡ true) f rest h) in
    let later = passes_all rest row values (All-tail (λ f. is_any (ask_at row f) ≡ true) f rest h) in
    rw (here, later) refl

pub behind_nothing : (row : Row) (field : Field) → asks_nothing row field ≡ true → All (λ f. is_any (ask_at row f) ≡ true) (drop (place_of field) fields)
behind_nothing row field h k d within =
    let inside : place_of field + k < 11 = omega (arith, length-drop (place_of field) fields, field_within field) in
    subst (λ (f : Field). is_any (ask_at row f) ≡ true)
    (sym (get_or-drop (place_of field) fields k d ∙ get_or_default fields (place_of field + k) d Length inside))
    (nothing_at row field (get_or fields (place_of field + k) Length) h (later (place_of field + k) inside (omega arith)))
  where
    later : (n : ℕ) → n < 11 → place_of field ≤ n → place_of field ≤ place_of (get_or fields n Length)
    later n inside less =
        let at = place_get n inside in
        omega (arith, at)

some_row : (one other : Row) → Some one ≡ Some other → one ≡ other
some_row one other e = cc

none_row : (row : Row) → None ≡ Some row → ⊥
none_row row e = cc

pub settled_first : (rows : List Row) (field : Field) (values others : Values) (row : Row)
    → All (λ f. place_of f < place_of field) (take (place_of field) fields) → Agree (place_of field) values others
    → find (λ row. passes (take (place_of field) fields) row values) rows ≡ Some row → asks_nothing row field ≡ true → first_row rows others ≡ Some row
settled_first [] field values others row before agree is h = absurd (none_row row is)
settled_first (first ∷ rest) field values others row before agree is h =
    by_first (passes (take (place_of field) fields) first values) refl is (settled_first rest field values others row before agree)
  where
    by_first : (b : Bool) → passes (take (place_of field) fields) first values ≡ b
        → find (λ row. passes (take (place_of field) fields) row values) (first ∷ rest) ≡ Some row
        → (find (λ row. passes (take (place_of field) fields) row values) rest ≡ Some row → asks_nothing row field ≡ true → first_row rest others ≡ Some row)
        → first_row (first ∷ rest) others ≡ Some row
    by_first true passes_too is later =
        let same : first ≡ row = some_row first row (rw passes_too at is) in
        let start = sym (passes_same (take (place_of field) fields) first (place_of field) values others before agree) ∙ passes_too in
        let end = passes_all (drop (place_of field) fields) first others (behind_nothing first field (subst (λ (r : Row). asks_nothing r field ≡ true) (sym same) h)) in
        let all : passes fields first others ≡ true = passes_parts (place_of field) first others ∙ both start end in
        rw all (ap (λ (r : Row). Some r) same)
      where
        both : {a b : Bool} → a ≡ true → b ≡ true → (a && b) ≡ true
        both p q = rw (p, q) refl
    by_first false fails is later =
        let start = sym (passes_same (take (place_of field) fields) first (place_of field) values others before agree) ∙ fails in
        let none : passes fields first others ≡ false = passes_parts (place_of field) first others ∙ neither (passes (drop (place_of field) fields) first others) start in
        rw none (later (rw fails at is) h)
      where
        neither : {a : Bool} (b : Bool) → a ≡ false → (a && b) ≡ false
        neither b p = rw p refl

-- where one row drops its frames, the tags don't count
dropped_apart : (reasons : Bool) (endings endings' : List Ending) (e e' : Ends) (others : Values) (b b' : Bool) → (is_dropped e || is_dropped e') ≡ true
    → endings_apart reasons (ending_of endings e others) (ending_of endings' e' others) b
    ≡ endings_apart reasons (ending_of endings e others) (ending_of endings' e' others) b'
dropped_apart reasons endings endings' (ends.Dropped reason) e' others b b' h = by_other (ending_of endings' e' others)
  where
    by_other : (y : Ending) → endings_apart reasons (Dropped reason) y b ≡ endings_apart reasons (Dropped reason) y b'
    by_other (Gem gem) = refl
    by_other (Dropped reason') = refl
dropped_apart reasons endings endings' (ends.ByPriority source) (ends.Dropped reason) others b b' h = by_one (ending_of endings (ends.ByPriority source) others)
  where
    by_one : (x : Ending) → endings_apart reasons x (Dropped reason) b ≡ endings_apart reasons x (Dropped reason) b'
    by_one (Gem gem) = refl
    by_one (Dropped reason') = refl
dropped_apart reasons endings endings' (ends.ByPriority source) (ends.ByPriority source') others b b' h = absurd (true≢false (sym h))

-- tags that are copied alike
agree_settled : (one other : Side) (field : Field) (others : Values) (row row' : Row) (x y : ℕ) → length others.values ≡ 11 → 6 < place_of field
    → copy_alike field row row' ≡ true → agree_at one other field others row row' x ≡ true → agree_at one other field others row row' y ≡ true
agree_settled one other field others row row' x y eleven late alike h =
    sym (counts y) ∙ settled_points one.settings other.settings row row' (dscp_behind row.tags others) (dscp_behind row'.tags others) field others x y late eleven alike
    (counts x ∙ h)
  where
    same : row.tags ≡ row'.tags
    same =
        eqb-true row.tags row'.tags
        (left_holds (row.tags == row'.tags) (row.retag.remove == row'.retag.remove)
        (left_holds (row.tags == row'.tags && row.retag.remove == row'.retag.remove)
        (are_added_alike field row.retag.outer row'.retag.outer && are_added_alike field row.retag.inner row'.retag.inner) alike))

    counts : (z : ℕ) → same_tags (frozen one.settings row.tags row (dscp_behind row.tags others) (with_value field z others))
        (frozen other.settings row'.tags row' (dscp_behind row'.tags others) (with_value field z others))
        ≡ agree_at one other field others row row' z
    counts z =
        let most : row.tags ≡ max row.tags row'.tags = let e = same in omega arith in
        let most' : row'.tags ≡ max row.tags row'.tags = let e = same in omega arith in
        ap (λ (n : ℕ). same_tags (frozen one.settings n row (dscp_behind row.tags others) (with_value field z others))
        (frozen other.settings row'.tags row' (dscp_behind row'.tags others) (with_value field z others))) most
        ∙ ap (λ (n : ℕ). same_tags (frozen one.settings (max row.tags row'.tags) row (dscp_behind row.tags others) (with_value field z others))
        (frozen other.settings n row' (dscp_behind row'.tags others) (with_value field z others))) most'

pub stays_by_settled : (reasons : Bool) (one other : Side) (field : Field) (others : Values) (row row' : Row) (c : ℕ) → IsPair one other others row row'
    → 6 < place_of field → are_rows_settled field row row' ≡ true
    → IsNear one.rows fields (with_value field c others) others → IsNear other.rows fields (with_value field c others) others
    → seen_apart reasons one other others ≡ true → seen_apart reasons one other (with_value field c others) ≡ true
stays_by_settled reasons one other field others row row' c pair late settled near near' apart =
    by_case (is_dropped row.ends || is_dropped row'.ends) refl
    (right_holds (asks_nothing row field && asks_nothing row' field) ((is_dropped row.ends || is_dropped row'.ends) || copy_alike field row row') settled)
  where
    by_case : (b : Bool) → (is_dropped row.ends || is_dropped row'.ends) ≡ b → ((is_dropped row.ends || is_dropped row'.ends) || copy_alike field row row') ≡ true
        → seen_apart reasons one other (with_value field c others) ≡ true
    by_case true is h =
        seen_changed reasons one other field others row row' c pair near near'
        ∙ dropped_apart reasons one.endings other.endings row.ends row'.ends others (not (agree_at one other field others row row' c))
        (not (agree_at one other field others row row' (value_at field others))) is
        ∙ sym (seen_others reasons one other field others row row' pair) ∙ apart
    by_case false is h =
        stays_apart reasons one other field others row row' c pair near near'
        (λ k. agree_settled one other field others row row' c (value_at field others) pair.eleven late (rw is at h) k) apart
