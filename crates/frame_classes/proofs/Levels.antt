-- One level of the splitting: the rows that are left, and the values so far.
use Rattle.std.proofs.Common.{◌≡◌, ◌≢◌, ℕ, zero, suc, ◌+◌, ◌<◌, ◌≤◌, Bool, true, false, ◌&&◌, List, [], ◌∷◌, ◌++◌, Some, None, arith, refl, ap, sym, subst, length, length-take, min, take, get_or, cond, ◌∙◌}
use Rattle.std.specs.Prelude.{All, filter, slice_get}
use Rattle.std.proofs.lemmas.List.{get_or-take, get_or_default}
use Rattle.std.proofs.lemmas.List.Elements.{All-cons, All-nil, All-push}
use Rattle.frame_rows.specs.declared.field.Field.{Field}
use Rattle.frame_rows.specs.declared.field.Field.TheVariants.{Length, FirstType, SecondType, ThirdType, FirstVid, SecondVid, ThirdVid, FirstPriority, SecondPriority, FirstEligible, SecondEligible}
use Rattle.frame_rows.specs.declared.field.Values.{Values}
use Rattle.frame_rows.specs.declared.row.Row.{Row}
use Rattle.frame_rows.specs.Field.{fields, place_of, value_at, with_value}
use Rattle.frame_rows.specs.Words.{limit_of}
use Rattle.frame_rows.specs.Row.{passes, row_admits}
use Rattle.frame_classes.specs.Choices.{test_at}
use Rattle.frame_rows.specs.Sight.{Side}
use Rattle.frame_classes.specs.Left.{AreLeftOf, is_of, rows_at, rows_of_side}
use Rattle.frame_classes.specs.Told.{rows_of_all}
use Rattle.frame_classes.specs.Splitting.{CanBe, IsOf}
use Rattle.frame_classes.proofs.LeftRows.{fields-more, filter-filter, passes-append, rows_at-filter}
use Rattle.frame_classes.proofs.Near.{value-with_other, value-with_same}
use Rattle.frame_classes.proofs.Step.{passes_before}

-- ---- levels

of_some : (one other : Field) → Some one ≡ Some other → place_of other ≡ place_of one
of_some one other is = ap place_of (sym same)
  where
    same : one ≡ other
    same = cc

none_some : (field : Field) → None ≡ Some field → ⊥
none_some field is = cc

-- the field of a level stands there among all
pub place_at : (level : ℕ) (field : Field) → slice_get fields level ≡ Some field → place_of field ≡ level
place_at zero field is = of_some Length field is
place_at (suc zero) field is = of_some FirstType field is
place_at (suc (suc zero)) field is = of_some SecondType field is
place_at (suc (suc (suc zero))) field is = of_some ThirdType field is
place_at (suc (suc (suc (suc zero)))) field is = of_some FirstVid field is
place_at (suc (suc (suc (suc (suc zero))))) field is = of_some SecondVid field is
place_at (suc (suc (suc (suc (suc (suc zero)))))) field is = of_some ThirdVid field is
place_at (suc (suc (suc (suc (suc (suc (suc zero))))))) field is = of_some FirstPriority field is
place_at (suc (suc (suc (suc (suc (suc (suc (suc zero)))))))) field is = of_some SecondPriority field is
place_at (suc (suc (suc (suc (suc (suc (suc (suc (suc zero))))))))) field is = of_some FirstEligible field is
place_at (suc (suc (suc (suc (suc (suc (suc (suc (suc (suc zero)))))))))) field is = of_some SecondEligible field is
place_at (suc (suc (suc (suc (suc (suc (suc (suc (suc (suc (suc more))))))))))) field is = absurd (none_some field is)

-- ---- the rows that are left

filter-same : {X : Type 0} (p q : X → Bool) (xs : List X) → ((x : X) → p x ≡ q x) → filter p xs ≡ filter q xs
filter-same {X} p q [] same = refl
filter-same {X} p q (x ∷ xs) same =
    ap (λ (b : Bool). cond b (x ∷ filter p xs) (filter p xs)) (same x)
    ∙ ap (λ (ys : List X). cond (q x) (x ∷ ys) ys) (filter-same p q xs same)

pub passes_changed : (some : List Field) (field : Field) (row : Row) (values : Values) (value : ℕ)
    → All (λ earlier. place_of earlier < place_of field) some → place_of field < length values.values
    → passes (some ++ field ∷ []) row (with_value field value values) ≡ (passes some row values && row_admits row field value)
passes_changed some field row values value earlier within =
    let before = passes_before some row field value values earlier in
    let has = value-with_same field value values within in
    passes-append some field row (with_value field value values) ∙ rw (before, has) refl

pub left_step : (rows listed : List Row) (some : List Field) (field : Field) (values : Values) (value : ℕ) (places narrower : List ℕ)
    → All (λ earlier. place_of earlier < place_of field) some → place_of field < length values.values
    → rows_at rows places ≡ filter (λ row. passes some row values) listed
    → narrower ≡ filter (test_at (λ row. row_admits row field value) false rows) places
    → rows_at rows narrower ≡ filter (λ row. passes (some ++ field ∷ []) row (with_value field value values)) listed
left_step rows listed some field values value places narrower earlier within left is =
    ap (rows_at rows) is
    ∙ rows_at-filter rows (λ row. row_admits row field value) places
    ∙ ap (filter (λ row. row_admits row field value)) left
    ∙ filter-filter (λ row. passes some row values) (λ row. row_admits row field value) listed
    ∙ filter-same (λ row. passes some row values && row_admits row field value) (λ row. passes (some ++ field ∷ []) row (with_value field value values)) listed
    (λ row. sym (passes_changed some field row values value earlier within))

-- of those that pass one test and another, in either order
filter-swap : {X : Type 0} (p q : X → Bool) (xs : List X) → filter p (filter q xs) ≡ filter q (filter p xs)
filter-swap p q xs =
    filter-filter q p xs ∙ filter-same (λ x. q x && p x) (λ x. p x && q x) xs (λ x. swap (q x) (p x)) ∙ sym (filter-filter p q xs)
  where
    swap : (a b : Bool) → (a && b) ≡ (b && a)
    swap true b = by_second b
      where
        by_second : (b : Bool) → b ≡ (b && true)
        by_second true = refl
        by_second false = refl
    swap false b = by_second b
      where
        by_second : (b : Bool) → false ≡ (b && false)
        by_second true = refl
        by_second false = refl

-- ---- values that a frame can have

can_be_along : (least : ℕ) (field : Field) (l l' v v' : ℕ) → l ≡ l' → v ≡ v' → CanBe least l field v → CanBe least l' field v'
can_be_along least field l l' v v' p q h =
    subst (λ (n : ℕ). CanBe least n field v') p (subst (λ (n : ℕ). CanBe least l field n) q h)

-- behind the length, a value more
pub of_step : (least : ℕ) (some : List Field) (field : Field) (values : Values) (value : ℕ)
    → All (λ earlier. place_of earlier < place_of field) some → place_of field < length values.values → place_of field ≢ 0
    → IsOf least some values → CanBe least (value_at Length values) field value
    → IsOf least (some ++ field ∷ []) (with_value field value values)
of_step least some field values value earlier within behind of can =
    let changed = with_value field value values in
    let length_same = sym (value-with_other field Length value values (λ e. behind (sym e))) in
    All-push (λ f. CanBe least (value_at Length changed) f (value_at f changed)) some field
    (λ k d h. can_be_along least (get_or some k d) (value_at Length values) (value_at Length changed) (value_at (get_or some k d) values)
    (value_at (get_or some k d) changed) length_same (sym (value-with_other field (get_or some k d) value values (apart (place_of (get_or some k d)) (place_of field) (earlier k d h)))) (of k d h))
    (can_be_along least field (value_at Length values) (value_at Length changed) value (value_at field changed) length_same
    (sym (value-with_same field value values within)) can)
  where
    apart : (a b : ℕ) → a < b → a ≢ b
    apart a b h e = omega arith

-- ---- the fields before a level

pub place_get : (k : ℕ) → k < 11 → place_of (get_or fields k Length) ≡ k
place_get zero within = refl
place_get (suc zero) within = refl
place_get (suc (suc zero)) within = refl
place_get (suc (suc (suc zero))) within = refl
place_get (suc (suc (suc (suc zero)))) within = refl
place_get (suc (suc (suc (suc (suc zero))))) within = refl
place_get (suc (suc (suc (suc (suc (suc zero)))))) within = refl
place_get (suc (suc (suc (suc (suc (suc (suc zero))))))) within = refl
place_get (suc (suc (suc (suc (suc (suc (suc (suc zero)))))))) within = refl
place_get (suc (suc (suc (suc (suc (suc (suc (suc (suc zero))))))))) within = refl
place_get (suc (suc (suc (suc (suc (suc (suc (suc (suc (suc zero)))))))))) within = refl
place_get (suc (suc (suc (suc (suc (suc (suc (suc (suc (suc (suc more))))))))))) within = absurd (omega arith)

pub earlier : (level : ℕ) → All (λ field. place_of field < level) (take level fields)
earlier level k d within =
    let short : k < level = omega (arith, length-take level fields) in
    let all : k < 11 = omega (arith, length-take level fields) in
    subst (λ (field : Field). place_of field < level) (sym (get_or_default (take level fields) k d Length within ∙ get_or-take level fields k Length short))
    (subst (λ (n : ℕ). n < level) (sym (place_get k all)) short)

some_field : (one other : Field) → Some one ≡ Some other → one ≡ other
some_field one other is = cc

pub field_get : (level : ℕ) (field : Field) → slice_get fields level ≡ Some field → get_or fields level Length ≡ field
field_get zero field is = some_field Length field is
field_get (suc zero) field is = some_field FirstType field is
field_get (suc (suc zero)) field is = some_field SecondType field is
field_get (suc (suc (suc zero))) field is = some_field ThirdType field is
field_get (suc (suc (suc (suc zero)))) field is = some_field FirstVid field is
field_get (suc (suc (suc (suc (suc zero))))) field is = some_field SecondVid field is
field_get (suc (suc (suc (suc (suc (suc zero)))))) field is = some_field ThirdVid field is
field_get (suc (suc (suc (suc (suc (suc (suc zero))))))) field is = some_field FirstPriority field is
field_get (suc (suc (suc (suc (suc (suc (suc (suc zero)))))))) field is = some_field SecondPriority field is
field_get (suc (suc (suc (suc (suc (suc (suc (suc (suc zero))))))))) field is = some_field FirstEligible field is
field_get (suc (suc (suc (suc (suc (suc (suc (suc (suc (suc zero)))))))))) field is = some_field SecondEligible field is
field_get (suc (suc (suc (suc (suc (suc (suc (suc (suc (suc (suc more))))))))))) field is = absurd (none_some field is)

-- each field stands at its place
pub field_of : (field : Field) → field ≡ get_or fields (place_of field) Length
field_of Length = refl
field_of FirstType = refl
field_of SecondType = refl
field_of ThirdType = refl
field_of FirstVid = refl
field_of SecondVid = refl
field_of ThirdVid = refl
field_of FirstPriority = refl
field_of SecondPriority = refl
field_of FirstEligible = refl
field_of SecondEligible = refl

-- the fields up to a level
pub up_to : (level : ℕ) (field : Field) → level < length fields → slice_get fields level ≡ Some field
    → take (level + 1) fields ≡ take level fields ++ field ∷ []
up_to level field within is = fields-more level within ∙ ap (λ (f : Field). take level fields ++ f ∷ []) (field_get level field is)

-- ---- the field of a level

pub record IsAt (level : ℕ) (field : Field) : Type 0 where
  pub place : place_of field ≡ level
  pub earlier_fields : All (λ f. place_of f < place_of field) (take level fields)
  pub more : take (level + 1) fields ≡ take level fields ++ field ∷ []

pub is_at : (level : ℕ) (field : Field) → level < length fields → field ≡ get_or fields level Length → IsAt level field
is_at level field within is =
    let place = ap place_of is ∙ place_get level within in
    record {
      place = place;
      earlier_fields = subst (λ (n : ℕ). All (λ f. place_of f < n) (take level fields)) (sym place) (earlier level);
      more = fields-more level within ∙ ap (λ (f : Field). take level fields ++ f ∷ []) (sym is);
    }

pub left_level : (sides : List Side) (rows : List Row) (level : ℕ) (field : Field) (values changed : Values) (value : ℕ) (places narrower : List ℕ) → IsAt level field
    → level < length fields → length values.values ≡ length fields → changed ≡ with_value field value values → rows ≡ rows_of_all sides
    → AreLeftOf sides (take level fields) values places → narrower ≡ filter (test_at (λ row. row_admits row field value) false rows) places
    → AreLeftOf sides (take (level + 1) fields) changed narrower
left_level sides rows level field values changed value places narrower at within eleven same together left is =
    let here : place_of field < length values.values = omega (arith, at.place) in
    let by_rows : narrower ≡ filter (test_at (λ row. row_admits row field value) false (rows_of_all sides)) places =
    is ∙ ap (λ (xs : List Row). filter (test_at (λ row. row_admits row field value) false xs) places) together in
    subst (λ (some : List Field). AreLeftOf sides some changed narrower) (sym at.more)
    (subst (λ (v : Values). AreLeftOf sides (take level fields ++ field ∷ []) v narrower) (sym same) (record {
      all = left_step (rows_of_all sides) (rows_of_all sides) (take level fields) field values value places narrower at.earlier_fields here left.all by_rows;
      each = λ side.
          left_step (rows_of_all sides) (rows_of_side sides side) (take level fields) field values value (filter (is_of sides side) places)
          (filter (is_of sides side) narrower) at.earlier_fields here (left.each side)
          (ap (filter (is_of sides side)) by_rows
          ∙ filter-swap (is_of sides side) (test_at (λ row. row_admits row field value) false (rows_of_all sides)) places);
    }))

-- the length is the first
of_first : (least : ℕ) (values : Values) (value : ℕ) → 0 < length values.values → CanBe least (value_at Length values) Length value
    → IsOf least (Length ∷ []) (with_value Length value values)
of_first least values value within can =
    let changed = with_value Length value values in
    let has = value-with_same Length value values within in
    All-cons (λ f. CanBe least (value_at Length changed) f (value_at f changed)) Length []
    (record {
      below = subst (λ (n : ℕ). n < limit_of Length) (sym has) can.below;
      absent = λ h. absurd (omega arith);
      long = λ h. subst (λ (n : ℕ). min 24 least ≤ n) (sym has) (can.long h);
    })
    (All-nil (λ f. CanBe least (value_at Length changed) f (value_at f changed)))

pub of_level : (least level : ℕ) (field : Field) (values changed : Values) (value : ℕ) → IsAt level field → level < length fields
    → length values.values ≡ length fields → changed ≡ with_value field value values → field ≡ get_or fields level Length
    → IsOf least (take level fields) values → CanBe least (value_at Length values) field value
    → IsOf least (take (level + 1) fields) changed
of_level least zero field values changed value at within eleven same is of can =
    subst (λ (v : Values). IsOf least (Length ∷ []) v) (sym (same ∙ ap (λ (f : Field). with_value f value values) is))
    (of_first least values value (omega arith) (subst (λ (f : Field). CanBe least (value_at Length values) f value) is can))
of_level least (suc level) field values changed value at within eleven same is of can =
    let here : place_of field < length values.values = omega (arith, at.place) in
    let behind : place_of field ≢ 0 = λ e. zero_not_suc level (sym e ∙ at.place) in
    subst (λ (some : List Field). IsOf least some changed) (sym at.more)
    (subst (λ (v : Values). IsOf least (take (suc level) fields ++ field ∷ []) v) (sym same)
    (of_step least (take (suc level) fields) field values value at.earlier_fields here behind of can))
  where
    zero_not_suc : (n : ℕ) → 0 ≡ suc n → ⊥
    zero_not_suc n e = omega arith
