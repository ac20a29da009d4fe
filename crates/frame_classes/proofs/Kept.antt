-- What is told of a frame is told with one of the values that cover its own.
use Rattle.std.proofs.Common.{◌≡◌, ℕ, ◌<◌, ◌≤◌, Bool, true, false, ◌&&◌, ◌||◌, if◌then◌else◌, List, [], ◌∷◌, ◌++◌, Option, Some, None, arith, refl, ap, sym, subst, length, take, get_or, ◌⊎◌, inl, inr, ◌∙◌}
use Rattle.std.specs.Prelude.{All, Any, Contains, find, slice_get}
use Rattle.std.proofs.lemmas.Bool.{and_parts, true≢false}
use Rattle.std.proofs.lemmas.List.{append-nil}
use Rattle.std.proofs.lemmas.List.Elements.{All-cons, All-head, All-nil, All-tail, All-weaker}
use Rattle.tag_view.specs.Tag.{is_tag_type}
use Rattle.frame_rows.specs.declared.class.FrameClass.{FrameClass}
use Rattle.frame_rows.specs.declared.field.Field.{Field}
use Rattle.frame_rows.specs.declared.field.Field.TheVariants.{Length}
use Rattle.frame_rows.specs.declared.field.Values.{Values}
use Rattle.frame_rows.specs.declared.row.Row.{Row}
use Rattle.frame_rows.specs.Field.{fields, place_of, value_at, with_value}
use Rattle.frame_rows.specs.Row.{first_row, passes, row_marks, row_reads}
use Rattle.frame_rows.specs.Sight.{Side, seen_apart}
use Rattle.frame_rows.specs.Words.{limit_of}
use Rattle.frame_classes.specs.declared.told.Told.{Told}
use Rattle.frame_classes.specs.Beside.{SideFits, SideMarks}
use Rattle.frame_classes.specs.Left.{AreLeftOf, first_left, rows_at, rows_of_side}
use Rattle.frame_classes.specs.Settled.{are_rows_settled, are_settled, are_settled_by, asks_nothing, copy_alike, is_dropped, is_settled}
use Rattle.frame_classes.specs.Splitting.{Agree, AreChoices, AreCovering, CanBe, HasSeveral, IsApart, IsCovered, IsNear, IsOf, Stands, begins_tag}
use Rattle.frame_classes.specs.Told.{class_at, classes_at, is_shown, one_of, rows_of_all, three_of, told_by, two_of}
use Rattle.frame_classes.proofs.Changed.{near_changed, near_of_agree}
use Rattle.frame_classes.proofs.Choosing.{Relation, choose_one, choose_two, pair_of, relation_of}
use Rattle.frame_classes.proofs.Leaves.{class_near, with_itself}
use Rattle.frame_classes.proofs.LeftRows.{find-filter}
use Rattle.frame_classes.proofs.Levels.{earlier}
use Rattle.frame_classes.proofs.Pairs.{IsPair}
use Rattle.frame_classes.proofs.Standing.{field_within}
use Rattle.frame_classes.proofs.Within.{of_changed}
use Rattle.frame_classes.proofs.Staying.{no_tag_of, settled_first, stays_by_apart, stays_by_settled}

-- ---- rows of one side among those of all

all_front : {X : Type 0} (P : X → Type 0) (xs ys : List X) → All P (xs ++ ys) → All P xs
all_front P [] ys h = All-nil P
all_front P (x ∷ xs) ys h = All-cons P x xs (All-head P x (xs ++ ys) h) (all_front P xs ys (All-tail P x (xs ++ ys) h))

all_back : {X : Type 0} (P : X → Type 0) (xs ys : List X) → All P (xs ++ ys) → All P ys
all_back P [] ys h = h
all_back P (x ∷ xs) ys h = all_back P xs ys (All-tail P x (xs ++ ys) h)

near_front : (rows more : List Row) (some : List Field) (one other : Values) → IsNear (rows ++ more) some one other → IsNear rows some one other
near_front rows more some one other near =
    record {
      alike = all_front (λ row. passes some row one ≡ passes some row other) rows more near.alike;
      read_alike = all_front (λ row. passes some row one ≡ true
          → All (λ field. row_reads row one field (value_at field one) ≡ row_reads row other field (value_at field other)) some) rows more near.read_alike;
      marked_alike = all_front (λ row. passes some row one ≡ true
          → All (λ field. row_marks row one field (value_at field one) ≡ row_marks row other field (value_at field other)) some) rows more near.marked_alike;
      longer = near.longer;
    }

near_back : (rows more : List Row) (some : List Field) (one other : Values) → IsNear (rows ++ more) some one other → IsNear more some one other
near_back rows more some one other near =
    record {
      alike = all_back (λ row. passes some row one ≡ passes some row other) rows more near.alike;
      read_alike = all_back (λ row. passes some row one ≡ true
          → All (λ field. row_reads row one field (value_at field one) ≡ row_reads row other field (value_at field other)) some) rows more near.read_alike;
      marked_alike = all_back (λ row. passes some row one ≡ true
          → All (λ field. row_marks row one field (value_at field one) ≡ row_marks row other field (value_at field other)) some) rows more near.marked_alike;
      longer = near.longer;
    }

-- for each side
pub near_each : (sides : List Side) (one other : Values) → IsNear (rows_of_all sides) fields one other → All (λ side. IsNear side.rows fields one other) sides
near_each [] one other near = All-nil (λ side. IsNear side.rows fields one other)
near_each (side ∷ rest) one other near =
    All-cons (λ side. IsNear side.rows fields one other) side rest (near_front side.rows (rows_of_all rest) fields one other near)
    (near_each rest one other (near_back side.rows (rows_of_all rest) fields one other near))

-- classes are the same
classes_same : (sides : List Side) (one other : Values) → All (λ side. IsNear side.rows fields one other) sides
    → classes_at sides one ≡ classes_at sides other
classes_same [] one other near = refl
classes_same (a ∷ []) one other near = ap one_of (class_near a.endings a.rows one other (near 0 a (omega arith)))
classes_same (a ∷ b ∷ []) one other near =
    ap (λ (c : Option FrameClass). two_of c (class_at b one)) (class_near a.endings a.rows one other (near 0 a (omega arith)))
    ∙ ap (two_of (class_at a other)) (class_near b.endings b.rows one other (near 1 a (omega arith)))
classes_same (a ∷ b ∷ c ∷ rest) one other near =
    ap (λ (k : Option FrameClass). three_of k (class_at b one) (class_at c one)) (class_near a.endings a.rows one other (near 0 a (omega arith)))
    ∙ ap (λ (k : Option FrameClass). three_of (class_at a other) k (class_at c one)) (class_near b.endings b.rows one other (near 1 a (omega arith)))
    ∙ ap (three_of (class_at a other) (class_at b other)) (class_near c.endings c.rows one other (near 2 a (omega arith)))

-- ---- what is told

shown_of : (shown : Bool) (classes : Option Told) (told : Told) → (if shown then classes else None) ≡ Some told → (shown ≡ true) × (classes ≡ Some told)
shown_of true classes told h = (refl, h)
shown_of false classes told h = absurd (none_some h)
  where
    none_some : None ≡ Some told → ⊥
    none_some e = cc

-- with a value that keeps it shown
told_with : (sides : List Side) (field : Field) (others : Values) (told : Told) (c : ℕ)
    → All (λ side. IsNear side.rows fields (with_value field c others) others) sides → told_by sides others ≡ Some told
    → is_shown sides (with_value field c others) ≡ true → told_by sides (with_value field c others) ≡ Some told
told_with sides field others told c near tells shown =
    rw shown (classes_same sides (with_value field c others) others near ∙ (shown_of (is_shown sides others) (classes_at sides others) told tells).1)

-- with a value it is a frame, of which the same is told
abbrev pub Keeps : List Side → ℕ → Field → Values → Told → ℕ → Type 0
Keeps sides least field others told c = IsOf least fields (with_value field c others) × (told_by sides (with_value field c others) ≡ Some told)

-- ---- a value among several

-- what is known of the sides, and of frames
pub record IsCase (sides : List Side) (least : ℕ) (field : Field) (values others : Values) (places choices : List ℕ) (told : Told) : Type 0 where
  pub three : length sides ≤ 3
  pub fit : All SideFits sides
  pub marked : All SideMarks sides
  pub eleven : length values.values ≡ 11
  pub agree : Agree (place_of field) values others
  pub left : AreLeftOf sides (take (place_of field) fields) values places
  pub tells : told_by sides others ≡ Some told
  pub of : IsOf least fields others
  pub within : All (CanBe least (value_at Length values) field) choices

shown : (sides : List Side) (least : ℕ) (field : Field) (values others : Values) (places choices : List ℕ) (told : Told) → IsCase sides least field values others places choices told
    → is_shown sides others ≡ true
shown sides least field values others places choices told case = (shown_of (is_shown sides others) (classes_at sides others) told case.tells).0

-- a value is looked at, and stands for others'
abbrev pub IsGood : List Side → Field → Values → Values → List ℕ → List ℕ → ℕ → Type 0
IsGood sides field values others places choices c = Contains choices c × Stands (rows_at (rows_of_all sides) places) field values others c

near_good : (sides : List Side) (least : ℕ) (field : Field) (values others : Values) (places choices : List ℕ) (told : Told) (c : ℕ)
    → IsCase sides least field values others places choices told → Stands (rows_at (rows_of_all sides) places) field values others c
    → All (λ side. IsNear side.rows fields (with_value field c others) others) sides
near_good sides least field values others places choices told c case stands =
    near_each sides (with_value field c others) others (near_changed (rows_of_all sides) field values others places c case.eleven case.agree case.left.all stands)

any_of : {X : Type 0} (P : X → Type 0) (xs : List X) (x : X) → Contains xs x → P x → Any P xs
any_of P xs x (k, within, is) h = (k, x, within, is, h)

-- with one that is good and keeps it shown
kept_with : (sides : List Side) (least : ℕ) (field : Field) (values others : Values) (places choices : List ℕ) (told : Told) (c : ℕ)
    → IsCase sides least field values others places choices told → IsGood sides field values others places choices c
    → is_shown sides (with_value field c others) ≡ true → Any (Keeps sides least field others told) choices
kept_with sides least field values others places choices told c case good shown =
    any_of (Keeps sides least field others told) choices c good.0
    (of_changed least field values others c case.agree case.of (can_at c good.0) good.1.longer, told_with sides field others told c (near_good sides least field values others places choices told c case good.1) case.tells shown)
  where
    can_at : (x : ℕ) → Contains choices x → CanBe least (value_at Length values) field x
    can_at x (k, within, is) = subst (CanBe least (value_at Length values) field) is (case.within k x within)

-- two sides with others' first rows
pair_at : (reasons : Bool) (sides : List Side) (least : ℕ) (field : Field) (values others : Values) (places choices : List ℕ) (told : Told) (m n : ℕ) (d : Side)
    → IsCase sides least field values others places choices told → m < length sides → n < length sides
    → seen_apart reasons (get_or sides m d) (get_or sides n d) others ≡ true
    → (row : Row) × ((row' : Row) × IsPair (get_or sides m d) (get_or sides n d) others row row')
pair_at reasons sides least field values others places choices told m n d case p q apart =
    pair_of reasons (get_or sides m d) (get_or sides n d) others case.agree.0 (case.fit m d p) (case.fit n d q) (case.marked m d p) (case.marked n d q) apart

relation_at : (reasons : Bool) (sides : List Side) (least : ℕ) (field : Field) (values others : Values) (places choices : List ℕ) (told : Told) (m n : ℕ) (d : Side)
    → IsCase sides least field values others places choices told → m < length sides → n < length sides → 3 < place_of field
    → All (λ c. c < limit_of field) choices → seen_apart reasons (get_or sides m d) (get_or sides n d) others ≡ true
    → Relation (IsGood sides field values others places choices) (λ x. seen_apart reasons (get_or sides m d) (get_or sides n d) (with_value field x others))
relation_at reasons sides least field values others places choices told m n d case p q late below apart =
    by_pair (pair_at reasons sides least field values others places choices told m n d case p q apart)
  where
    below_at : (x : ℕ) → Contains choices x → x < limit_of field
    below_at x (k, within, is) = subst (λ (c : ℕ). c < limit_of field) is (below k x within)

    by_pair : (row : Row) × ((row' : Row) × IsPair (get_or sides m d) (get_or sides n d) others row row')
        → Relation (IsGood sides field values others places choices) (λ x. seen_apart reasons (get_or sides m d) (get_or sides n d) (with_value field x others))
    by_pair (row, (row', pair)) =
        relation_of reasons (get_or sides m d) (get_or sides n d) field others row row' (IsGood sides field values others places choices) pair late
        (λ x good. below_at x good.0)
        (λ x good. near_good sides least field values others places choices told x case good.1 m d p)
        (λ x good. near_good sides least field values others places choices told x case good.1 n d q) apart

kept_by_several : (sides : List Side) (least : ℕ) (field : Field) (values others : Values) (places choices : List ℕ) (told : Told)
    → IsCase sides least field values others places choices told → 3 < place_of field → All (λ c. c < limit_of field) choices
    → HasSeveral (length sides) (IsGood sides field values others places choices)
    → Any (Keeps sides least field others told) choices
kept_by_several [] least field values others places choices told case late below several = absurd (none_some case.tells)
  where
    none_some : None ≡ Some told → ⊥
    none_some e = cc
kept_by_several (a ∷ []) least field values others places choices told case late below several =
    let found = several [] (omega arith) in
    kept_with (a ∷ []) least field values others places choices told found.0 case found.1.0 refl
kept_by_several (a ∷ b ∷ []) least field values others places choices told case late below several =
    let apart = shown (a ∷ b ∷ []) least field values others places choices told case in
    let found = choose_one several (relation_at true (a ∷ b ∷ []) least field values others places choices told 0 1 a case (omega arith) (omega arith) late below apart) in
    kept_with (a ∷ b ∷ []) least field values others places choices told found.0 case found.1.0 found.1.1
kept_by_several (a ∷ b ∷ c ∷ []) least field values others places choices told case late below several =
    let both = and_parts (seen_apart false b a others) (seen_apart false b c others) (shown (a ∷ b ∷ c ∷ []) least field values others places choices told case) in
    let found =
    choose_two several (relation_at false (a ∷ b ∷ c ∷ []) least field values others places choices told 1 0 a case (omega arith) (omega arith) late below both.0)
    (relation_at false (a ∷ b ∷ c ∷ []) least field values others places choices told 1 2 a case (omega arith) (omega arith) late below both.1) in
    kept_with (a ∷ b ∷ c ∷ []) least field values others places choices told found.0 case found.1.0 (true_both found.1.1.0 found.1.1.1)
  where
    true_both : {x y : Bool} → x ≡ true → y ≡ true → (x && y) ≡ true
    true_both p q = rw (p, q) refl
kept_by_several (a ∷ b ∷ c ∷ d ∷ rest) least field values others places choices told case late below several =
    let few = case.three in
    absurd (omega arith)

-- ---- one value that stands for it

-- a type that begins a tag for none
none_of : (sides : List Side) (value : ℕ) → begins_tag sides value ≡ false → All (λ side. is_tag_type side.settings.input_tpid value ≡ false) sides
none_of [] value h = All-nil (λ side. is_tag_type side.settings.input_tpid value ≡ false)
none_of (side ∷ rest) value h =
    All-cons (λ side. is_tag_type side.settings.input_tpid value ≡ false) side rest (neither_left (is_tag_type side.settings.input_tpid value) (begins_tag rest value) h)
    (none_of rest value (neither_right (is_tag_type side.settings.input_tpid value) (begins_tag rest value) h))
  where
    neither_left : (x y : Bool) → (x || y) ≡ false → x ≡ false
    neither_left true y h = h
    neither_left false y h = refl

    neither_right : (x y : Bool) → (x || y) ≡ false → y ≡ false
    neither_right true y h = absurd (true≢false h)
    neither_right false y h = h

none_at : (sides : List Side) (field : Field) (value : ℕ) (n : ℕ) (d : Side) → 1 < length sides → IsApart sides field value → n < length sides
    → no_tag_of (get_or sides n d) field value
none_at sides field value n d several apart within = by_type apart.type
  where
    by_type : (begins_tag sides value ≡ false ⊎ length sides ≤ 1) ⊎ ((place_of field ≡ 0) ⊎ (place_of field ≡ 3)) → no_tag_of (get_or sides n d) field value
    by_type (inl (inl none)) = inl (none_of sides value none n d within)
    by_type (inl (inr one)) = absurd (omega arith)
    by_type (inr other) = inr other

-- the first row of a side among those that are left
pub left_find : (sides : List Side) (field : Field) (values : Values) (places : List ℕ) (n : ℕ) (rows : List Row)
    → AreLeftOf sides (take (place_of field) fields) values places → rows_of_side sides n ≡ rows
    → first_left sides places n ≡ find (λ row. passes (take (place_of field) fields) row values) rows
left_find sides field values places n rows left is =
    ap (λ (xs : List Row). slice_get xs 0) (left.each n)
    ∙ sym (find-filter (λ row. passes (take (place_of field) fields) row values) (rows_of_side sides n))
    ∙ ap (find (λ row. passes (take (place_of field) fields) row values)) is

settled_pair : (sides : List Side) (least : ℕ) (field : Field) (values others : Values) (places choices : List ℕ) (told : Told) (m n : ℕ) (one other : Side) (row row' : Row)
    → IsCase sides least field values others places choices told → rows_of_side sides m ≡ one.rows → rows_of_side sides n ≡ other.rows
    → are_settled sides places field m n ≡ true → IsPair one other others row row' → are_rows_settled field row row' ≡ true
settled_pair sides least field values others places choices told m n one other row row' case at at' settled pair =
    by_first (first_left sides places m) (first_left sides places n) refl refl settled
  where
    none_row : (r : Row) → None ≡ Some r → ⊥
    none_row r e = cc

    some_row : (r s : Row) → Some r ≡ Some s → r ≡ s
    some_row r s e = cc

    chosen : (n : ℕ) (side : Side) (r s : Row) → rows_of_side sides n ≡ side.rows → first_left sides places n ≡ Some r → asks_nothing r field ≡ true
        → first_row side.rows others ≡ Some s → r ≡ s
    chosen n side r s at there nothing first =
        some_row r s (sym (settled_first side.rows field values others r (earlier (place_of field)) case.agree
        (sym (left_find sides field values places n side.rows case.left at) ∙ there) nothing) ∙ first)

    by_first : (a b : Option Row) → first_left sides places m ≡ a → first_left sides places n ≡ b → are_settled_by field a b ≡ true
        → are_rows_settled field row row' ≡ true
    by_first None b p q h = absurd (true≢false (sym h))
    by_first (Some r) None p q h = absurd (true≢false (sym h))
    by_first (Some r) (Some r') p q h =
        let nothing = (and_parts (asks_nothing r field && asks_nothing r' field) ((is_dropped r.ends || is_dropped r'.ends) || copy_alike field r r') h).0 in
        let both = and_parts (asks_nothing r field) (asks_nothing r' field) nothing in
        subst (λ (x : Row). are_rows_settled field x row' ≡ true) (chosen m one r row at p both.0 pair.first)
        (subst (λ (x : Row). are_rows_settled field r x ≡ true) (chosen n other r' row' at' q both.1 pair.second) h)

-- what two sides see stays
abbrev pub IsOne : List Side → List ℕ → Field → ℕ → Type 0
IsOne sides places field value = IsApart sides field value ⊎ ((6 < place_of field) × (is_settled sides places field ≡ true))

one_at : (reasons : Bool) (sides : List Side) (least : ℕ) (field : Field) (values others : Values) (places choices : List ℕ) (told : Told) (m n c : ℕ) (d : Side)
    → IsCase sides least field values others places choices told → 1 < length sides → m < length sides → n < length sides
    → rows_of_side sides m ≡ (get_or sides m d).rows → rows_of_side sides n ≡ (get_or sides n d).rows
    → Stands (rows_at (rows_of_all sides) places) field values others c
    → IsApart sides field (value_at field others) ⊎ ((6 < place_of field) × (are_settled sides places field m n ≡ true))
    → seen_apart reasons (get_or sides m d) (get_or sides n d) others ≡ true
    → seen_apart reasons (get_or sides m d) (get_or sides n d) (with_value field c others) ≡ true
one_at reasons sides least field values others places choices told m n c d case several p q at at' stands one apart =
    by_pair (pair_at reasons sides least field values others places choices told m n d case p q apart) one
  where
    near : All (λ side. IsNear side.rows fields (with_value field c others) others) sides
    near = near_good sides least field values others places choices told c case stands

    by_pair : (row : Row) × ((row' : Row) × IsPair (get_or sides m d) (get_or sides n d) others row row')
        → IsApart sides field (value_at field others) ⊎ ((6 < place_of field) × (are_settled sides places field m n ≡ true))
        → seen_apart reasons (get_or sides m d) (get_or sides n d) (with_value field c others) ≡ true
    by_pair (row, (row', pair)) (inl none) =
        stays_by_apart reasons (get_or sides m d) (get_or sides n d) field others row row' c pair none.early
        (none_at sides field (value_at field others) m d several none p) (none_at sides field (value_at field others) n d several none q) (near m d p) (near n d q) apart
    by_pair (row, (row', pair)) (inr (late, settled)) =
        stays_by_settled reasons (get_or sides m d) (get_or sides n d) field others row row' c pair late
        (settled_pair sides least field values others places choices told m n (get_or sides m d) (get_or sides n d) row row' case at at' settled pair) (near m d p) (near n d q) apart

kept_by_one : (sides : List Side) (least : ℕ) (field : Field) (values others : Values) (places choices : List ℕ) (told : Told) (c : ℕ)
    → IsCase sides least field values others places choices told → IsGood sides field values others places choices c → IsOne sides places field (value_at field others)
    → Any (Keeps sides least field others told) choices
kept_by_one [] least field values others places choices told c case good one = absurd (none_some case.tells)
  where
    none_some : None ≡ Some told → ⊥
    none_some e = cc
kept_by_one (a ∷ []) least field values others places choices told c case good one = kept_with (a ∷ []) least field values others places choices told c case good refl
kept_by_one (a ∷ b ∷ []) least field values others places choices told c case good one =
    kept_with (a ∷ b ∷ []) least field values others places choices told c case good
    (one_at true (a ∷ b ∷ []) least field values others places choices told 0 1 c a case (omega arith) (omega arith) (omega arith) (append-nil a.rows) (append-nil b.rows) good.1 one
    (shown (a ∷ b ∷ []) least field values others places choices told case))
kept_by_one (a ∷ b ∷ c ∷ []) least field values others places choices told x case good one =
    let both = and_parts (seen_apart false b a others) (seen_apart false b c others) (shown (a ∷ b ∷ c ∷ []) least field values others places choices told case) in
    kept_with (a ∷ b ∷ c ∷ []) least field values others places choices told x case good (true_both
    (one_at false (a ∷ b ∷ c ∷ []) least field values others places choices told 1 0 x a case (omega arith) (omega arith) (omega arith) (append-nil b.rows) (append-nil a.rows) good.1 (first one) both.0)
    (one_at false (a ∷ b ∷ c ∷ []) least field values others places choices told 1 2 x a case (omega arith) (omega arith) (omega arith) (append-nil b.rows) (append-nil c.rows) good.1 (second one) both.1))
  where
    true_both : {x y : Bool} → x ≡ true → y ≡ true → (x && y) ≡ true
    true_both p q = rw (p, q) refl

    first : IsOne (a ∷ b ∷ c ∷ []) places field (value_at field others)
        → IsApart (a ∷ b ∷ c ∷ []) field (value_at field others) ⊎ ((6 < place_of field) × (are_settled (a ∷ b ∷ c ∷ []) places field 1 0 ≡ true))
    first (inl none) = inl none
    first (inr (late, settled)) = inr (late, (and_parts (are_settled (a ∷ b ∷ c ∷ []) places field 1 0) (are_settled (a ∷ b ∷ c ∷ []) places field 1 2) settled).0)

    second : IsOne (a ∷ b ∷ c ∷ []) places field (value_at field others)
        → IsApart (a ∷ b ∷ c ∷ []) field (value_at field others) ⊎ ((6 < place_of field) × (are_settled (a ∷ b ∷ c ∷ []) places field 1 2 ≡ true))
    second (inl none) = inl none
    second (inr (late, settled)) = inr (late, (and_parts (are_settled (a ∷ b ∷ c ∷ []) places field 1 0) (are_settled (a ∷ b ∷ c ∷ []) places field 1 2) settled).1)
kept_by_one (a ∷ b ∷ c ∷ d ∷ rest) least field values others places choices told x case good one =
    let few = case.three in
    absurd (omega arith)

-- ---- all values that cover

kept : (sides : List Side) (least : ℕ) (field : Field) (values others : Values) (places choices : List ℕ) (told : Told)
    → IsCase sides least field values others places choices told → All (λ c. c < limit_of field) choices
    → IsCovered sides places (rows_at (rows_of_all sides) places) field values others choices
    → Any (Keeps sides least field others told) choices
kept sides least field values others places choices told case below (inl there) =
    any_of (Keeps sides least field others told) choices (value_at field others) there
    (subst (λ (v : Values). IsOf least fields v) (sym (with_itself field others)) case.of, ap (told_by sides) (with_itself field others) ∙ case.tells)
kept sides least field values others places choices told case below (inr (inl (late, several))) =
    kept_by_several sides least field values others places choices told case late below several
kept sides least field values others places choices told case below (inr (inr (one, (k, c, within, is, stands)))) =
    kept_by_one sides least field values others places choices told c case ((k, within, is), stands) one

pub choices_of : (sides : List Side) (least : ℕ) (field : Field) (values : Values) (places choices : List ℕ) → length sides ≤ 3 → All SideFits sides
    → All SideMarks sides → length values.values ≡ 11 → AreLeftOf sides (take (place_of field) fields) values places
    → AreCovering sides places least field values choices → AreChoices sides least field values choices
choices_of sides least field values places choices three fit marked eleven left covering =
    record {
      within = covering.within;
      each = λ others told of agree tells.
          let inside = field_within field in
          kept sides least field values others places choices told
          (record { three = three; fit = fit; marked = marked; eleven = eleven; agree = agree; left = left; tells = tells; of = of; within = covering.within })
          (All-weaker (CanBe least (value_at Length values) field) (λ c. c < limit_of field) (λ c can. can.below) choices covering.within)
          (covering.each others of (near_of_agree (rows_of_all sides) (place_of field) values others eleven (omega arith) agree (earlier (place_of field))));
    }
