-- Numbers that stand for all, where rows that are left ask for numbers or nothing.
use Rattle.std.proofs.Common.{◌≡◌, ◌≢◌, ℕ, ◌+◌, ◌<◌, ◌≤◌, Bool, true, false, ◌&&◌, ◌||◌, List, [], ◌∷◌, ◌++◌, Option, Some, None, arith, refl, ap, map, sym, subst, length, take, get_or, nat_lt, ◌⊎◌, inl, inr, ◌∙◌}
use Rattle.std.specs.Prelude.{All, Contains, slice_get}
use Rattle.std.specs.List.{list_any, range_with_len}
use Rattle.std.proofs.lemmas.Bool.{ne_eqb, true≢false}
use Rattle.std.proofs.lemmas.List.FromFn.{get_or-range_with_len, length-range_with_len, map-range_with_len_more}
use Rattle.std.proofs.lemmas.List.Elements.{All-cons, All-from_get_or, All-nil, All-weaker}
use Rattle.frame_rows.specs.declared.ask.Ask.{Ask}
use Rattle.frame_rows.specs.declared.ask.Ask.TheVariants.{Any as Anything, Exactly, Between, TagType, NoTagType, Ethertype}
use Rattle.frame_rows.specs.declared.field.Field.{Field}
use Rattle.frame_rows.specs.declared.field.Field.TheVariants.{Length}
use Rattle.frame_rows.specs.declared.field.Values.{Values}
use Rattle.frame_rows.specs.declared.source.DscpSource.{DscpSource}
use Rattle.frame_rows.specs.declared.source.Source.{Source}
use Rattle.frame_rows.specs.declared.source.Source.TheVariants.{Fixed, FirstTag, SecondTag, Dscp}
use Rattle.frame_rows.specs.declared.row.Ends.{Ends}
use Rattle.frame_rows.specs.declared.row.Ends.TheVariants as ends
use Rattle.frame_rows.specs.declared.row.Row.{Row}
use Rattle.frame_rows.specs.Ask.{admits}
use Rattle.frame_rows.specs.Alike.{ends_read_all, marking_reads_all, row_reads_all}
use Rattle.frame_classes.specs.Choices.{is_asked, is_read, is_some_value, test_at}
use Rattle.frame_rows.specs.Field.{end_of, fields, place_of, type_behind, value_at, vid_behind}
use Rattle.frame_rows.specs.Fits.{asks_number}
use Rattle.frame_rows.specs.Words.{limit_of}
use Rattle.frame_rows.specs.Row.{ask_at, dscp_reads, ends_read, marking_reads, named_by, passes, source_reads}
use Rattle.frame_classes.specs.Splitting.{CanBe, HasSeveral, IsCovered, IsNear, IsOf, Stands}
use Rattle.frame_classes.specs.Left.{AreLeft, rows_at}
use Rattle.frame_classes.specs.Settled.{are_settled, is_settled}
use Rattle.frame_rows.specs.Sight.{Side}
use Rattle.frame_classes.proofs.Near.{type_before}
use Rattle.frame_classes.proofs.Standing.{CoverBy, IsCase, all_filtered, asks_numbers, other_can_be}
use Rattle.frame_classes.proofs.Several.{several_weaker}

-- ---- what no row that is left does

or_left : (a b : Bool) → (a || b) ≡ false → a ≡ false
or_left true b h = h
or_left false b h = refl

or_right : (a b : Bool) → (a || b) ≡ false → b ≡ false
or_right true b h = absurd (true≢false h)
or_right false b h = h

pub none_left : (test : Row → Bool) (rows : List Row) (places : List ℕ) → list_any (test_at test false rows) places ≡ false
    → All (λ row. test row ≡ false) (rows_at rows places)
none_left test rows [] none = All-nil (λ row. test row ≡ false)
none_left test rows (place ∷ rest) none =
    by_row (slice_get rows place) refl (none_left test rows rest (or_right (test_at test false rows place) (list_any (test_at test false rows) rest) none))
  where
    by_row : (row : Option Row) → slice_get rows place ≡ row → All (λ row. test row ≡ false) (rows_at rows rest)
        → All (λ row. test row ≡ false) (rows_at rows (place ∷ rest))
    by_row None is others = rw is others
    by_row (Some row) is others =
        let here : test_at test false rows place ≡ false = or_left (test_at test false rows place) (list_any (test_at test false rows) rest) none in
        rw is (All-cons (λ row. test row ≡ false) row (rows_at rows rest) (rw is at here) others)

-- what holds of all rows holds of those that are left
pub still_left : (P : Row → Type 0) (rows : List Row) (some : List Field) (values : Values) (places : List ℕ) → AreLeft rows some values places
    → All P rows → All P (rows_at rows places)
still_left P rows some values places left h =
    subst (All P) (sym left) (all_filtered P (λ row. passes some row values) rows (λ k d within _. h k d within))

-- ---- where nothing is asked or read

pub any_ask : (ask : Ask) → asks_number ask ≡ true → is_some_value (named_by ask) ≡ false → (value : ℕ) → admits ask value ≡ true
any_ask Anything number unnamed value = refl
any_ask (Exactly only) number unnamed value = absurd (true≢false unnamed)
any_ask (Between least most) number unnamed value = absurd (true≢false (sym number))
any_ask (TagType input filter) number unnamed value = absurd (true≢false (sym number))
any_ask (NoTagType input filter) number unnamed value = absurd (true≢false (sym number))
any_ask (Ethertype filter) number unnamed value = absurd (true≢false (sym number))

vid_early : (tags : ℕ) → place_of (vid_behind tags) < 7
vid_early tags = by_count (nat_lt tags 1) (nat_lt tags 2) refl refl
  where
    by_count : (one two : Bool) → nat_lt tags 1 ≡ one → nat_lt tags 2 ≡ two → place_of (vid_behind tags) < 7
    by_count true two p q = rw p (omega arith)
    by_count false true p q = rw (p, q) (omega arith)
    by_count false false p q = rw (p, q) (omega arith)

unread_dscp : (source : DscpSource) (field : Field) → 6 < place_of field → (values : Values) (value : ℕ) → dscp_reads source values field value ≡ 0
unread_dscp source field late values value =
    let vid = vid_early source.tags in
    let type = type_before source.tags in
    let one = ne_eqb (place_of field) 0 (behind (place_of field) 0 (omega arith)) in
    let two = ne_eqb (place_of field) (place_of (type_behind source.tags)) (behind (place_of field) (place_of (type_behind source.tags)) (omega arith)) in
    let three = ne_eqb (place_of field) (place_of (vid_behind source.tags)) (behind (place_of field) (place_of (vid_behind source.tags)) (omega arith)) in
    rw (one, two, three) refl
  where
    behind : (a b : ℕ) → b < a → a ≢ b
    behind a b h e = omega arith

unread : (e : Ends) (field : Field) → 6 < place_of field → ends_read_all field e ≡ false → (values : Values) (value : ℕ) → ends_read e values field value ≡ 0
unread (ends.Dropped reason) field late not_read values value = refl
unread (ends.ByPriority source) field late not_read values value = by_source source not_read
  where
    by_source : (s : Source) → ends_read_all field (ends.ByPriority s) ≡ false → source_reads s values field value ≡ 0
    by_source (Fixed priority) h = refl
    by_source FirstTag h = rw h refl
    by_source SecondTag h = rw h refl
    by_source (Dscp d) h = unread_dscp d field late values value

unmarked : (m : Option DscpSource) (field : Field) → 6 < place_of field → (values : Values) (value : ℕ) → marking_reads m values field value ≡ 0
unmarked None field late values value = refl
unmarked (Some source) field late values value = unread_dscp source field late values value

-- any value stands for all
pub number_stands : (sides : List Side) (rows : List Row) (field : Field) (values : Values) (places : List ℕ)
    → IsCase sides rows (take (place_of field) fields) values places → 6 < place_of field → is_read rows places field ≡ false
    → is_asked rows places field ≡ false → (others : Values) (value : ℕ) → Stands (rows_at rows places) field values others value
number_stands sides rows field values places is late not_read not_asked others value =
    record {
      each = λ k d within.
          let row = get_or (rows_at rows places) k d in
          let ends_unread = or_left (ends_read_all field row.ends) (marking_reads_all field row.marking) (not_read_by k d within) in
          record {
            admits =
                any_ask (ask_at row field) (asks k d within) (unnamed k d within) value
                ∙ sym (any_ask (ask_at row field) (asks k d within) (unnamed k d within) (value_at field others));
            reads = λ _. unread row.ends field late ends_unread values value ∙ sym (unread row.ends field late ends_unread others (value_at field others));
            marks = λ _. unmarked row.marking field late values value ∙ sym (unmarked row.marking field late others (value_at field others));
          };
      longer = λ first. absurd (omega arith);
    }
  where
    asks : All (λ row. asks_number (ask_at row field) ≡ true) (rows_at rows places)
    asks =
        still_left (λ row. asks_number (ask_at row field) ≡ true) rows (take (place_of field) fields) values places is.left
        (asks_numbers sides rows field is.fits (omega arith))

    unnamed : All (λ row. is_some_value (named_by (ask_at row field)) ≡ false) (rows_at rows places)
    unnamed = none_left (λ row. is_some_value (named_by (ask_at row field))) rows places not_asked

    not_read_by : All (λ row. row_reads_all field row ≡ false) (rows_at rows places)
    not_read_by = none_left (λ row. row_reads_all field row) rows places not_read

late_can_be : (least length : ℕ) (field : Field) (value : ℕ) → 6 < place_of field → end_of field ≤ length → value < limit_of field → CanBe least length field value
late_can_be least length field value late long below =
    record { below = below; absent = λ short. absurd (omega arith); long = λ first. absurd (omega arith) }

-- one, where all are settled
pub one_number : (sides : List Side) (rows : List Row) (least : ℕ) (field : Field) (values : Values) (places choices : List ℕ) (value : ℕ)
    → IsCase sides rows (take (place_of field) fields) values places → 6 < place_of field → end_of field ≤ value_at Length values
    → value < limit_of field → is_read rows places field ≡ false → is_asked rows places field ≡ false
    → is_settled sides places field ≡ true → choices ≡ value ∷ [] → CoverBy sides rows places least field values choices
one_number sides rows least field values places choices value is late long below not_read not_asked settled only =
    subst (λ (choices : List ℕ). CoverBy sides rows places least field values choices) (sym only) (record {
      within = All-cons (CanBe least (value_at Length values) field) value [] (late_can_be least (value_at Length values) field value late long below)
          (All-nil (CanBe least (value_at Length values) field));
      each = λ others of near.
          inr (inr (inr (late, settled), (0, value, omega arith, refl, number_stands sides rows field values places is late not_read not_asked others value)));
    })

-- or several
pub several_numbers : (sides : List Side) (rows : List Row) (least : ℕ) (field : Field) (values : Values) (places choices : List ℕ) (count end : ℕ)
    → IsCase sides rows (take (place_of field) fields) values places → 6 < place_of field → end_of field ≤ value_at Length values
    → end ≡ limit_of field → count ≡ length sides → is_read rows places field ≡ false → is_asked rows places field ≡ false
    → All (λ c. c < end) choices → HasSeveral count (λ c. Contains choices c) ⊎ ((v : ℕ) → v < end → Contains choices v)
    → CoverBy sides rows places least field values choices
several_numbers sides rows least field values places choices count end is late long limit counted not_read not_asked fit several =
    record {
      within = All-weaker (λ c. c < end) (CanBe least (value_at Length values) field)
          (λ c small. late_can_be least (value_at Length values) field c late long (subst (λ (n : ℕ). c < n) limit small)) choices fit;
      each = each;
    }
  where
    each : (others : Values) → IsOf least fields others → IsNear rows (take (place_of field) fields) values others
        → IsCovered sides places (rows_at rows places) field values others choices
    each others of near = by_case several
      where
        by_case : HasSeveral count (λ c. Contains choices c) ⊎ ((v : ℕ) → v < end → Contains choices v)
            → IsCovered sides places (rows_at rows places) field values others choices
        by_case (inl some) =
            inr (inl (
              omega arith,
              subst (λ (n : ℕ). HasSeveral n (λ c. Contains choices c × Stands (rows_at rows places) field values others c)) counted
                  (several_weaker count (λ c. Contains choices c) (λ c. Contains choices c × Stands (rows_at rows places) field values others c)
                  (λ c there. (there, number_stands sides rows field values places is late not_read not_asked others c)) some),
            ))
        by_case (inr all) = inl (all (value_at field others) (subst (λ (n : ℕ). value_at field others < n) (sym limit) (other_can_be least others of field).below))

-- or all
pub all_numbers : (sides : List Side) (rows : List Row) (least : ℕ) (field : Field) (values : Values) (places choices : List ℕ) (end : ℕ)
    → 6 < place_of field → end_of field ≤ value_at Length values → end ≡ limit_of field → choices ≡ range_with_len 0 end
    → CoverBy sides rows places least field values choices
all_numbers sides rows least field values places choices end late long limit all =
    subst (λ (choices : List ℕ). CoverBy sides rows places least field values choices) (sym all) (record {
      within = All-from_get_or (CanBe least (value_at Length values) field) (range_with_len 0 end) 0 within;
      each = λ others of near. inl (there (value_at field others) (subst (λ (n : ℕ). value_at field others < n) (sym limit) (other_can_be least others of field).below));
    })
  where
    within : (k : ℕ) → k < length (range_with_len 0 end) → CanBe least (value_at Length values) field (get_or (range_with_len 0 end) k 0)
    within k h =
        let count = length-range_with_len 0 end in
        let short : k < end = omega (arith, count) in
        let zero : 0 + k ≡ k = omega arith in
        subst (CanBe least (value_at Length values) field) (sym (get_or-range_with_len 0 end k 0 short ∙ zero))
        (late_can_be least (value_at Length values) field k late long (subst (λ (n : ℕ). k < n) limit short))

    there : (v : ℕ) → v < end → Contains (range_with_len 0 end) v
    there v h =
        let count = length-range_with_len 0 end in
        let zero : 0 + v ≡ v = omega arith in
        (v, omega (arith, count), get_or-range_with_len 0 end v v h ∙ zero)

-- ---- of two sides, and of three

pub settled_two : (sides : List Side) (places : List ℕ) (field : Field) → length sides ≡ 2 → is_settled sides places field ≡ are_settled sides places field 0 1
settled_two [] places field two = absurd (omega arith)
settled_two (one ∷ []) places field two = absurd (omega arith)
settled_two (before ∷ after ∷ []) places field two = refl
settled_two (before ∷ here ∷ after ∷ rest) places field two = absurd (omega arith)

pub settled_three : (sides : List Side) (places : List ℕ) (field : Field) → 2 < length sides
    → is_settled sides places field ≡ (are_settled sides places field 1 0 && are_settled sides places field 1 2)
settled_three [] places field three = absurd (omega arith)
settled_three (one ∷ []) places field three = absurd (omega arith)
settled_three (before ∷ after ∷ []) places field three = absurd (omega arith)
settled_three (before ∷ here ∷ after ∷ rest) places field three = refl

-- one more in order
pub range_more : (end : ℕ) (numbers more : List ℕ) → numbers ≡ range_with_len 0 end → more ≡ numbers ++ end ∷ [] → more ≡ range_with_len 0 (end + 1)
range_more end numbers more so_far is =
    is ∙ ap (λ (ns : List ℕ). ns ++ end ∷ []) so_far ∙ ap (λ (ns : List ℕ). ns ++ end ∷ []) (sym (map_same (range_with_len 0 end)))
    ∙ sym (map-range_with_len_more (λ (n : ℕ). n) 0 end end (omega arith)) ∙ map_same (range_with_len 0 (end + 1))
  where
    map_same : (xs : List ℕ) → map (λ (n : ℕ). n) xs ≡ xs
    map_same [] = refl
    map_same (x ∷ xs) = ap (λ (ys : List ℕ). x ∷ ys) (map_same xs)
