-- One field further: what stands for other values in it does so for frames.
use Rattle.std.proofs.Common.{◌≡◌, ◌≢◌, ℕ, zero, suc, ◌<◌, ◌≤◌, ◌==◌, Bool, true, false, ◌&&◌, List, [], ◌∷◌, ◌++◌, Option, Some, None, arith, refl, ap, sym, subst, length, get_or, cond, ◌∙◌}
use Rattle.std.specs.Prelude.{All, filter}
use Rattle.std.proofs.lemmas.Bool.{eqb-false, eqb-true, true≢false}
use Rattle.std.proofs.lemmas.List.{set-set}
use Rattle.std.proofs.lemmas.List.Elements.{All-head, All-tail, All-push}
use Rattle.frame_rows.specs.declared.field.Field.{Field}
use Rattle.frame_rows.specs.declared.field.Field.TheVariants.{Length}
use Rattle.frame_rows.specs.declared.field.Values.{Values}
use Rattle.frame_rows.specs.declared.row.Ends.{Ends}
use Rattle.frame_rows.specs.declared.row.Ends.TheVariants as ends
use Rattle.frame_rows.specs.declared.row.Row.{Row}
use Rattle.frame_rows.specs.declared.source.DscpSource.{DscpSource}
use Rattle.frame_rows.specs.declared.source.Source.TheVariants.{Dscp}
use Rattle.frame_meaning.specs.declared.reason.Reason.TheVariants.{Runt}
use Rattle.frame_rows.specs.Field.{place_of, value_at, with_value}
use Rattle.frame_rows.specs.Source.{dscp_behind}
use Rattle.frame_rows.specs.Row.{ends_read, marking_reads, passes, row_admits, row_marks, row_reads}
use Rattle.frame_classes.specs.Splitting.{IsNear, Stands, StandsFor}
use Rattle.frame_classes.proofs.LeftRows.{passes-append}
use Rattle.frame_classes.proofs.Near.{row_reads-later, row_reads-same, value-with_other, value-with_same}

-- ---- what a filter leaves

-- what holds of all that pass a test
pub all_that_pass : {X : Type 0} (P : X → Type 0) (p : X → Bool) (xs : List X) → All P (filter p xs)
    → (k : ℕ) (d : X) → k < length xs → p (get_or xs k d) ≡ true → P (get_or xs k d)
all_that_pass {X} P p [] h k d within passes = absurd (omega arith)
all_that_pass {X} P p (x ∷ xs) h k d within passes = by_first (p x) refl k within passes (all_that_pass P p xs)
  where
    by_first : (first : Bool) → p x ≡ first → (k : ℕ) → k < length (x ∷ xs) → p (get_or (x ∷ xs) k d) ≡ true
        → (All P (filter p xs) → (k : ℕ) (d : X) → k < length xs → p (get_or xs k d) ≡ true → P (get_or xs k d)) → P (get_or (x ∷ xs) k d)
    by_first true is zero within passes others =
        All-head P x (filter p xs) (subst (λ (b : Bool). All P (cond b (x ∷ filter p xs) (filter p xs))) is h)
    by_first true is (suc k) within passes others =
        others (All-tail P x (filter p xs) (subst (λ (b : Bool). All P (cond b (x ∷ filter p xs) (filter p xs))) is h)) k d (omega arith) passes
    by_first false is zero within passes others = absurd (true≢false (sym passes ∙ is))
    by_first false is (suc k) within passes others =
        others (subst (λ (b : Bool). All P (cond b (x ∷ filter p xs) (filter p xs))) is h) k d (omega arith) passes

-- ---- a field that is set

-- what is read of it doesn't depend on what it was
row_reads-set : (row : Row) (field : Field) (value : ℕ) (values : Values)
    → row_reads row (with_value field value values) field value ≡ row_reads row values field value
row_reads-set row field value values =
    row_reads-same row field value (with_value field value values) values (λ tags is.
    ap (λ (items : List ℕ). dscp_behind tags (of_items items)) (set-set values.values (place_of field) value value))
  where
    of_items : List ℕ → Values
    of_items items = record { values = items }

-- the fields before it keep theirs
reads_before : (row : Row) (field later : Field) (value : ℕ) (values : Values) → place_of field < place_of later → place_of later < length values.values
    → row_reads row (with_value later value values) field (value_at field (with_value later value values)) ≡ row_reads row values field (value_at field values)
reads_before row field later value values before within =
    ap (row_reads row (with_value later value values) field) (value-with_other later field value values (omega arith))
    ∙ row_reads-later row field later (value_at field values) value values before within

-- ---- what added tags read

-- the priorities of added tags, as of a row that ends by them
ends_by : Option DscpSource → Ends
ends_by None = ends.Dropped Runt
ends_by (Some source) = ends.ByPriority (Dscp source)

pub marks_row : Row → Row
marks_row row = record row { ends = ends_by row.marking }

pub marks_are : (row : Row) (values : Values) (field : Field) (value : ℕ) → row_marks row values field value ≡ row_reads (marks_row row) values field value
unfolding marks_row ends_by
marks_are row values field value = by_marking row.marking
  where
    by_marking : (m : Option DscpSource) → marking_reads m values field value ≡ ends_read (ends_by m) values field value
    by_marking None = refl
    by_marking (Some source) = refl

marks_before : (row : Row) (field later : Field) (value : ℕ) (values : Values) → place_of field < place_of later → place_of later < length values.values
    → row_marks row (with_value later value values) field (value_at field (with_value later value values)) ≡ row_marks row values field (value_at field values)
marks_before row field later value values before within =
    marks_are row (with_value later value values) field (value_at field (with_value later value values))
    ∙ reads_before (marks_row row) field later value values before within
    ∙ sym (marks_are row values field (value_at field values))

marks_set : (row : Row) (field : Field) (value : ℕ) (values : Values)
    → row_marks row (with_value field value values) field value ≡ row_marks row values field value
marks_set row field value values =
    marks_are row (with_value field value values) field value ∙ row_reads-set (marks_row row) field value values ∙ sym (marks_are row values field value)

-- ---- fields before

pub passes_before : (some : List Field) (row : Row) (later : Field) (value : ℕ) (values : Values) → All (λ field. place_of field < place_of later) some
    → passes some row (with_value later value values) ≡ passes some row values
passes_before [] row later value values before = refl
passes_before (field ∷ rest) row later value values before =
    let first = value-with_other later field value values (omega (arith, All-head (λ field. place_of field < place_of later) field rest before)) in
    let others = passes_before rest row later value values (All-tail (λ field. place_of field < place_of later) field rest before) in
    rw (first, others) refl

-- ---- the step

and_left : (a b : Bool) → (a && b) ≡ true → a ≡ true
and_left true b h = refl
and_left false b h = h

and_right : (a b : Bool) → (a && b) ≡ true → b ≡ true
and_right true b h = h
and_right false b h = absurd (true≢false (sym h))

-- a value that stands for others' in a field, behind values that are near the others', is near with these
pub near_step : (rows : List Row) (some : List Field) (field : Field) (values others : Values) (value : ℕ)
    → All (λ earlier. place_of earlier < place_of field) some → place_of field < length values.values
    → (place_of field ≢ 0 → 0 < length some)
    → IsNear rows some values others → Stands (filter (λ row. passes some row values) rows) field values others value
    → IsNear rows (some ++ field ∷ []) (with_value field value values) others
near_step rows some field values others value earlier within some_before near stands =
    record { alike = alike; read_alike = read_alike; marked_alike = marked_alike; longer = λ _. longer }
  where
    changed : Values
    changed = with_value field value values

    -- for one row
    stands_at : (k : ℕ) (d : Row) → k < length rows → passes some (get_or rows k d) values ≡ true
        → StandsFor (get_or rows k d) field values value others (value_at field others)
    stands_at k d h passes_too =
        all_that_pass (λ row. StandsFor row field values value others (value_at field others)) (λ row. passes some row values) rows stands.each k d h passes_too

    same_before : (row : Row) → passes some row changed ≡ passes some row values
    same_before row = passes_before some row field value values earlier

    passes_changed : (row : Row) → passes (some ++ field ∷ []) row changed ≡ (passes some row values && row_admits row field value)
    passes_changed row =
        let has = value-with_same field value values within in
        passes-append some field row changed ∙ rw (same_before row, has) refl

    alike : All (λ row. passes (some ++ field ∷ []) row changed ≡ passes (some ++ field ∷ []) row others) rows
    alike k d h =
        let row = get_or rows k d in
        passes_changed row ∙ by_before (passes some row values) refl (near.alike k d h) ∙ sym (passes-append some field row others)
      where
        by_before : (b : Bool) → passes some (get_or rows k d) values ≡ b → passes some (get_or rows k d) values ≡ passes some (get_or rows k d) others
            → (passes some (get_or rows k d) values && row_admits (get_or rows k d) field value)
            ≡ (passes some (get_or rows k d) others && row_admits (get_or rows k d) field (value_at field others))
        by_before true is same =
            let admits = (stands_at k d h is).admits in
            rw (← same, is) admits
        by_before false is same = rw (← same, is) refl

    read_alike : All (λ row. passes (some ++ field ∷ []) row changed ≡ true
        → All (λ field. row_reads row changed field (value_at field changed) ≡ row_reads row others field (value_at field others)) (some ++ field ∷ [])) rows
    read_alike k d h passes_too =
        let row = get_or rows k d in
        let both = sym (passes_changed row) ∙ passes_too in
        let before = and_left (passes some row values) (row_admits row field value) both in
        let here = and_right (passes some row values) (row_admits row field value) both in
        All-push (λ field. row_reads row changed field (value_at field changed) ≡ row_reads row others field (value_at field others)) some field
        (λ i e within_some. reads_before row (get_or some i e) field value values (earlier i e within_some) within ∙ near.read_alike k d h before i e within_some)
        (ap (row_reads row changed field) (value-with_same field value values within) ∙ row_reads-set row field value values ∙ (stands_at k d h before).reads here)

    marked_alike : All (λ row. passes (some ++ field ∷ []) row changed ≡ true
        → All (λ field. row_marks row changed field (value_at field changed) ≡ row_marks row others field (value_at field others)) (some ++ field ∷ [])) rows
    marked_alike k d h passes_too =
        let row = get_or rows k d in
        let both = sym (passes_changed row) ∙ passes_too in
        let before = and_left (passes some row values) (row_admits row field value) both in
        let here = and_right (passes some row values) (row_admits row field value) both in
        All-push (λ field. row_marks row changed field (value_at field changed) ≡ row_marks row others field (value_at field others)) some field
        (λ i e within_some. marks_before row (get_or some i e) field value values (earlier i e within_some) within ∙ near.marked_alike k d h before i e within_some)
        (ap (row_marks row changed field) (value-with_same field value values within) ∙ marks_set row field value values ∙ (stands_at k d h before).marks here)

    longer : value_at Length others ≤ value_at Length changed
    longer = by_place (place_of field == 0) refl
      where
        by_place : (b : Bool) → (place_of field == 0) ≡ b → value_at Length others ≤ value_at Length changed
        by_place true is =
            let first : place_of field ≡ 0 = eqb-true (place_of field) 0 is in
            subst (λ (n : ℕ). value_at Length others ≤ n) (sym (ap (λ (i : ℕ). get_or changed.values i 0) (sym first) ∙ value-with_same field value values within)) (stands.longer first)
        by_place false is =
            let apart : place_of field ≢ 0 = eqb-false (place_of field) 0 is in
            subst (λ (n : ℕ). value_at Length others ≤ n) (sym (value-with_other field Length value values (omega arith))) (near.longer (some_before apart))
