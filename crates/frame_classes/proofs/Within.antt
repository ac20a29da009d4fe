-- A frame with another value of one field is a frame.
use Rattle.std.proofs.Common.{◌≡◌, ◌≢◌, ℕ, ◌<◌, ◌≤◌, ◌==◌, Bool, true, false, arith, refl, ap, sym, subst, length, get_or, ◌∙◌}
use Rattle.std.proofs.lemmas.Bool.{eqb-false, eqb-true}
use Rattle.frame_rows.specs.declared.field.Field.{Field}
use Rattle.frame_rows.specs.declared.field.Field.TheVariants.{Length}
use Rattle.frame_rows.specs.declared.field.Values.{Values}
use Rattle.frame_rows.specs.Field.{end_of, fields, place_of, value_at, with_value}
use Rattle.frame_classes.specs.Splitting.{Agree, CanBe, IsOf}
use Rattle.frame_classes.proofs.Changed.{same_before}
use Rattle.frame_classes.proofs.Levels.{field_of}
use Rattle.frame_classes.proofs.Near.{value-with_other, value-with_same}
use Rattle.frame_classes.proofs.Standing.{field_within, other_can_be}

-- a field of the same place is the field
same_field : (one other : Field) → place_of one ≡ place_of other → one ≡ other
same_field one other is = field_of one ∙ ap (λ (n : ℕ). get_or fields n Length) is ∙ sym (field_of other)

can_along : (least : ℕ) (field : Field) (l l' v v' : ℕ) → l ≡ l' → v ≡ v' → CanBe least l field v → CanBe least l' field v'
can_along least field l l' v v' p q h =
    subst (λ (n : ℕ). CanBe least n field v') p (subst (λ (n : ℕ). CanBe least l field n) q h)

pub of_changed : (least : ℕ) (field : Field) (values others : Values) (c : ℕ) → Agree (place_of field) values others → IsOf least fields others
    → CanBe least (value_at Length values) field c → (place_of field ≡ 0 → value_at Length others ≤ c) → IsOf least fields (with_value field c others)
of_changed least field values others c agree of can longer k d within = at (get_or fields k d)
  where
    changed : Values
    changed = with_value field c others

    inside : place_of field < length others.values
    inside =
        let long = agree.0 in
        let less = field_within field in
        omega arith

    -- the length of the changed frame is the others', or the value itself
    by_first : (f : Field) → place_of field ≡ 0 → CanBe least (value_at Length changed) f (value_at f changed)
    by_first f first = by_other (place_of f == 0) refl
      where
        here : value_at Length changed ≡ c
        here = ap (λ (n : ℕ). get_or changed.values n 0) (sym first) ∙ value-with_same field c others inside

        more : value_at Length others ≤ c
        more = longer first

        by_other : (b : Bool) → (place_of f == 0) ≡ b → CanBe least (value_at Length changed) f (value_at f changed)
        by_other true is =
            let at_first : place_of f ≡ 0 = eqb-true (place_of f) 0 is in
            subst (λ (g : Field). CanBe least (value_at Length changed) g (value_at g changed)) (sym (same_field f Length at_first))
            (can_along least Length c (value_at Length changed) c (value_at Length changed) (sym here) (sym here)
            (as_length c (subst (λ (g : Field). CanBe least (value_at Length values) g c) (same_field field Length first) can)))
          where
            as_length : (n : ℕ) → CanBe least (value_at Length values) Length n → CanBe least n Length n
            as_length n h = record { below = h.below; absent = λ short. absurd (omega arith); long = h.long }
        by_other false is =
            let apart : place_of f ≢ 0 = eqb-false (place_of f) 0 is in
            let old = other_can_be least others of f in
            can_along least f c (value_at Length changed) (value_at f others) (value_at f changed) (sym here) (sym (value-with_other field f c others (differ (place_of f) (place_of field) first apart)))
            (record { below = old.below; absent = λ short. old.absent (less_through (value_at Length others) c (end_of f) more short); long = λ at_first. absurd (apart at_first) })
          where
            differ : (a b : ℕ) → b ≡ 0 → a ≢ 0 → a ≢ b
            differ a b e h k = h (k ∙ e)

            less_through : (a b c : ℕ) → a ≤ b → b < c → a < c
            less_through a b c p q = omega arith

    by_later : (f : Field) → place_of field ≢ 0 → CanBe least (value_at Length changed) f (value_at f changed)
    by_later f later = by_other (place_of f == place_of field) refl
      where
        here : value_at Length changed ≡ value_at Length others
        here = value-with_other field Length c others (λ e. later (sym e))

        before : value_at Length values ≡ value_at Length others
        before = same_before (place_of field) values others Length agree (positive (place_of field) later)
          where
            positive : (n : ℕ) → n ≢ 0 → 0 < n
            positive n h = omega arith

        by_other : (b : Bool) → (place_of f == place_of field) ≡ b → CanBe least (value_at Length changed) f (value_at f changed)
        by_other true is =
            let same = same_field f field (eqb-true (place_of f) (place_of field) is) in
            subst (λ (g : Field). CanBe least (value_at Length changed) g (value_at g changed)) (sym same)
            (can_along least field (value_at Length values) (value_at Length changed) c (value_at field changed) (before ∙ sym here) (sym (value-with_same field c others inside)) can)
        by_other false is =
            let apart : place_of f ≢ place_of field = eqb-false (place_of f) (place_of field) is in
            can_along least f (value_at Length others) (value_at Length changed) (value_at f others) (value_at f changed) (sym here) (sym (value-with_other field f c others apart))
            (other_can_be least others of f)

    at : (f : Field) → CanBe least (value_at Length changed) f (value_at f changed)
    at f = by_place (place_of field == 0) refl
      where
        by_place : (b : Bool) → (place_of field == 0) ≡ b → CanBe least (value_at Length changed) f (value_at f changed)
        by_place true is = by_first f (eqb-true (place_of field) 0 is)
        by_place false is = by_later f (eqb-false (place_of field) 0 is)
