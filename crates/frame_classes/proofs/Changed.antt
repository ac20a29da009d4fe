-- Values of a frame with another value of one field, which stands for theirs.
use Rattle.std.proofs.Common.{◌≡◌, ◌≢◌, ℕ, zero, suc, ◌+◌, ◌-◌, ◌<◌, ◌≤◌, List, [], ◌∷◌, ◌++◌, arith, refl, ap, sym, subst, length, length-set, length-take, take, get_or, ◌∙◌}
use Rattle.std.specs.Prelude.{All, filter}
use Rattle.std.proofs.lemmas.Bool.{eqb-true}
use Rattle.std.proofs.lemmas.List.{get_or-take}
use Rattle.std.proofs.lemmas.List.Elements.{All-head, All-tail}
use Rattle.frame_rows.specs.declared.field.Field.{Field}
use Rattle.frame_rows.specs.declared.field.Field.TheVariants.{Length}
use Rattle.frame_rows.specs.declared.field.Values.{Values}
use Rattle.frame_rows.specs.declared.row.Row.{Row}
use Rattle.frame_rows.specs.Field.{fields, place_of, type_behind, value_at, vid_behind, with_value}
use Rattle.frame_rows.specs.Row.{passes, row_admits, row_marks, row_reads}
use Rattle.frame_classes.specs.Left.{AreLeft, rows_at}
use Rattle.frame_classes.specs.Splitting.{Agree, IsNear, Stands, StandsFor}
use Rattle.frame_classes.proofs.Leaves.{with_itself}
use Rattle.frame_classes.proofs.Levels.{field_of, is_at}
use Rattle.frame_classes.proofs.SameReads.{ReadAlike, reads_alike}
use Rattle.frame_classes.proofs.Standing.{all_filtered, field_within}
use Rattle.frame_classes.proofs.Near.{dscp_behind-same, row_reads-same, type_before, type_first, value-with_other, value-with_same}
use Rattle.frame_classes.proofs.Step.{marks_are, marks_row, near_step}

-- ---- values that agree before a level

-- in each field there
pub same_before : (level : ℕ) (values others : Values) (field : Field) → Agree level values others → place_of field < level
    → value_at field values ≡ value_at field others
same_before level values others field agree before =
    sym (get_or-take level values.values (place_of field) 0 before)
    ∙ ap (λ (items : List ℕ). get_or items (place_of field) 0) (sym agree.1)
    ∙ get_or-take level others.values (place_of field) 0 before

pub passes_same : (some : List Field) (row : Row) (level : ℕ) (values others : Values) → All (λ field. place_of field < level) some → Agree level values others
    → passes some row values ≡ passes some row others
passes_same [] row level values others before agree = refl
passes_same (field ∷ rest) row level values others before agree =
    let first = same_before level values others field agree (All-head (λ field. place_of field < level) field rest before) in
    let later = passes_same rest row level values others (All-tail (λ field. place_of field < level) field rest before) agree in
    rw (first, later) refl

-- what is read of a field behind them is the same
reads_same : (row : Row) (field : Field) (value : ℕ) (values others : Values) → length values.values ≡ 11 → place_of field < 11
    → Agree (place_of field) values others → row_reads row values field value ≡ row_reads row others field value
reads_same row field value values others eleven inside agree =
    row_reads-same row field value values others (λ tags is.
    let vid : place_of field ≡ place_of (vid_behind tags) = eqb-true (place_of field) (place_of (vid_behind tags)) is in
    let type : place_of (type_behind tags) < place_of (vid_behind tags) = type_before tags in
    let first : 0 < place_of (type_behind tags) = type_first tags in
    let long = agree.0 in
    dscp_behind-same tags (with_value field value values) (with_value field value others)
    (kept Length (omega arith) (omega arith)) (kept (type_behind tags) (omega arith) (omega arith))
    (at (vid_behind tags) values (sym vid) (omega arith) ∙ sym (at (vid_behind tags) others (sym vid) (omega arith))))
  where
    kept : (g : Field) → place_of g ≢ place_of field → place_of g < place_of field
        → value_at g (with_value field value values) ≡ value_at g (with_value field value others)
    kept g apart before =
        value-with_other field g value values apart ∙ same_before (place_of field) values others g agree before ∙ sym (value-with_other field g value others apart)

    at : (g : Field) (w : Values) → place_of g ≡ place_of field → place_of field < length w.values → value_at g (with_value field value w) ≡ value
    at g w same within = rw same (value-with_same field value w within)

marks_same : (row : Row) (field : Field) (value : ℕ) (values others : Values) → length values.values ≡ 11 → place_of field < 11
    → Agree (place_of field) values others → row_marks row values field value ≡ row_marks row others field value
marks_same row field value values others eleven inside agree =
    marks_are row values field value ∙ reads_same (marks_row row) field value values others eleven inside agree ∙ sym (marks_are row others field value)

-- ---- values near themselves

near_itself : (rows : List Row) (some : List Field) (values : Values) → IsNear rows some values values
near_itself rows some values =
    record {
      alike = λ k d h. refl;
      read_alike = λ k d h passes i e within. refl;
      marked_alike = λ k d h passes i e within. refl;
      longer = λ h. length_same (value_at Length values);
    }
  where
    length_same : (n : ℕ) → n ≤ n
    length_same n = omega arith

-- values that agree are near
pub near_of_agree : (rows : List Row) (level : ℕ) (values others : Values) → length values.values ≡ 11 → level < 12 → Agree level values others
    → All (λ field. place_of field < level) (take level fields) → IsNear rows (take level fields) values others
near_of_agree rows level values others eleven less agree before =
    record {
      alike = λ k d h. passes_same (take level fields) (get_or rows k d) level values others before agree;
      read_alike = λ k d h passes i e within. reads_at (get_or rows k d) (get_or (take level fields) i e) (before i e within);
      marked_alike = λ k d h passes i e within. marks_at (get_or rows k d) (get_or (take level fields) i e) (before i e within);
      longer = λ some. longer (omega (arith, some, length-take level fields));
    }
  where
    less_agree : (f : Field) → place_of f < level → Agree (place_of f) values others
    less_agree f h = (agree.0, prefix (place_of f) level others.values values.values (omega arith) agree.1)
      where
        prefix : (m n : ℕ) (xs ys : List ℕ) → m ≤ n → take n xs ≡ take n ys → take m xs ≡ take m ys
        prefix m n xs ys le is = sym (take_of m n xs le) ∙ ap (take m) is ∙ take_of m n ys le
          where
            take_of : (m n : ℕ) (xs : List ℕ) → m ≤ n → take m (take n xs) ≡ take m xs
            take_of zero n xs le = refl
            take_of (suc m) zero xs le = absurd (omega arith)
            take_of (suc m) (suc n) [] le = refl
            take_of (suc m) (suc n) (x ∷ xs) le = ap (λ (ys : List ℕ). x ∷ ys) (take_of m n xs (omega arith))

    reads_at : (row : Row) (f : Field) → place_of f < level → row_reads row values f (value_at f values) ≡ row_reads row others f (value_at f others)
    reads_at row f h =
        ap (row_reads row values f) (same_before level values others f agree h) ∙ reads_same row f (value_at f others) values others eleven (omega arith) (less_agree f h)

    marks_at : (row : Row) (f : Field) → place_of f < level → row_marks row values f (value_at f values) ≡ row_marks row others f (value_at f others)
    marks_at row f h =
        ap (row_marks row values f) (same_before level values others f agree h) ∙ marks_same row f (value_at f others) values others eleven (omega arith) (less_agree f h)

    longer : 0 < level → value_at Length others ≤ value_at Length values
    longer h = le_of (value_at Length others) (value_at Length values) (sym (same_before level values others Length agree h))
      where
        le_of : (a b : ℕ) → a ≡ b → a ≤ b
        le_of a b e = omega arith

-- ---- one field changed

-- a value stands for others' in a field behind others themselves, as it does behind values that agree with them
stands_behind : (rows : List Row) (field : Field) (values others : Values) (places : List ℕ) (c : ℕ) → length values.values ≡ 11 → place_of field < 11
    → All (λ f. place_of f < place_of field) (take (place_of field) fields) → Agree (place_of field) values others
    → AreLeft rows (take (place_of field) fields) values places → Stands (rows_at rows places) field values others c
    → Stands (filter (λ row. passes (take (place_of field) fields) row others) rows) field others others c
stands_behind rows field values others places c eleven inside before agree left stands =
    subst (λ (left : List Row). Stands left field others others c) (left ∙ filter_same rows) (record {
      each = λ k d h. for_row (get_or (rows_at rows places) k d) (stands.each k d h);
      longer = stands.longer;
    })
  where
    filter_same : (rows : List Row) → filter (λ row. passes (take (place_of field) fields) row values) rows
        ≡ filter (λ row. passes (take (place_of field) fields) row others) rows
    filter_same [] = refl
    filter_same (row ∷ rest) =
        let here = passes_same (take (place_of field) fields) row (place_of field) values others before agree in
        let others_same = filter_same rest in
        rw (here, others_same) refl

    for_row : (row : Row) → StandsFor row field values c others (value_at field others) → StandsFor row field others c others (value_at field others)
    for_row row s =
        record {
          admits = s.admits;
          reads = λ h. sym (reads_same row field c values others eleven inside agree) ∙ s.reads h;
          marks = λ h. sym (marks_same row field c values others eleven inside agree) ∙ s.marks h;
        }

-- ---- the fields behind

-- others' value of a field stands for itself
stands_itself : (rows : List Row) (field : Field) (changed others : Values) → length changed.values ≡ 11 → place_of field < 11 → 0 < place_of field
    → value_at field changed ≡ value_at field others → IsNear rows (take (place_of field) fields) changed others
    → Stands (filter (λ row. passes (take (place_of field) fields) row changed) rows) field changed others (value_at field changed)
stands_itself rows field changed others eleven inside later same near =
    record {
      each = all_filtered (λ row. StandsFor row field changed (value_at field changed) others (value_at field others))
          (λ row. passes (take (place_of field) fields) row changed) rows (λ k d h passes. for_row (get_or rows k d) (near.read_alike k d h passes) (near.marked_alike k d h passes));
      longer = λ first. absurd (omega arith);
    }
  where
    for_row : (row : Row) → ReadAlike row (take (place_of field) fields) changed others
        → All (λ f. row_marks row changed f (value_at f changed) ≡ row_marks row others f (value_at f others)) (take (place_of field) fields)
        → StandsFor row field changed (value_at field changed) others (value_at field others)
    for_row row alike marked =
        record {
          admits = ap (row_admits row field) same;
          reads = λ _. ap (row_reads row changed field) same ∙ reads_alike row field changed others (omega (arith, eleven)) alike;
          marks = λ _.
              ap (row_marks row changed field) same
              ∙ marks_are row changed field (value_at field others)
              ∙ reads_alike (marks_row row) field changed others (omega (arith, eleven)) (λ i e within.
              sym (marks_are row changed (get_or (take (place_of field) fields) i e) (value_at (get_or (take (place_of field) fields) i e) changed))
              ∙ marked i e within
              ∙ marks_are row others (get_or (take (place_of field) fields) i e) (value_at (get_or (take (place_of field) fields) i e) others))
              ∙ sym (marks_are row others field (value_at field others));
        }

-- near before a level, and the same from there on
near_up : (rows : List Row) (changed others : Values) (level left : ℕ) → length changed.values ≡ 11 → 0 < level → level + left ≡ 11
    → ((field : Field) → level ≤ place_of field → value_at field changed ≡ value_at field others) → IsNear rows (take level fields) changed others
    → IsNear rows fields changed others
near_up rows changed others level zero eleven later all same near =
    subst (λ (n : ℕ). IsNear rows (take n fields) changed others) (full level all) near
  where
    full : (level : ℕ) → level + 0 ≡ 11 → level ≡ 11
    full level e = omega arith
near_up rows changed others level (suc left) eleven later all same near =
    let within : level < 11 = omega arith in
    let field = get_or fields level Length in
    let at = is_at level field within refl in
    let place = at.place in
    let here : value_at field changed ≡ value_at field others = same field (omega arith) in
    let stands = stands_itself rows field changed others eleven (omega arith) (omega arith) here (subst (λ (n : ℕ). IsNear rows (take n fields) changed others) (sym at.place) near) in
    near_up rows changed others (level + 1) left eleven (omega arith) (omega arith) (λ f h. same f (omega arith))
    (subst (λ (some : List Field). IsNear rows some changed others) (sym at.more)
    (subst (λ (v : Values). IsNear rows (take level fields ++ field ∷ []) v others) (with_itself field changed)
    (near_step rows (take level fields) field changed others (value_at field changed) at.earlier_fields (omega arith) (λ _. omega (arith, length-take level fields)) near
    (subst (λ (n : ℕ). Stands (filter (λ row. passes (take n fields) row changed) rows) field changed others (value_at field changed)) at.place stands))))

-- others with a value that stands for theirs are near them
pub near_changed : (rows : List Row) (field : Field) (values others : Values) (places : List ℕ) (c : ℕ) → length values.values ≡ 11
    → Agree (place_of field) values others → AreLeft rows (take (place_of field) fields) values places
    → Stands (rows_at rows places) field values others c → IsNear rows fields (with_value field c others) others
near_changed rows field values others places c eleven agree left stands =
    let inside = field_within field in
    let at = is_at (place_of field) field inside (field_of field) in
    let long = agree.0 in
    near_up rows (with_value field c others) others (place_of field + 1) (11 - (place_of field + 1)) (simp length-set (agree.0)) (omega arith) (omega arith)
    (λ f h. value-with_other field f c others (omega arith))
    (subst (λ (some : List Field). IsNear rows some (with_value field c others) others) (sym at.more)
    (near_step rows (take (place_of field) fields) field others others c at.earlier_fields (omega arith) (some_before inside) (near_itself rows (take (place_of field) fields) others)
    (stands_behind rows field values others places c eleven inside at.earlier_fields agree left stands)))
  where
    some_before : place_of field < 11 → place_of field ≢ 0 → 0 < length (take (place_of field) fields)
    some_before inside apart = omega (arith, length-take (place_of field) fields)
