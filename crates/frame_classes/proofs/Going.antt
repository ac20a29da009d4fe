-- The values of one field, one after the other.
use Rattle.std.proofs.Common.{◌≡◌, ◌⊎◌, inl, inr, ℕ, zero, suc, ◌+◌, ◌<◌, List, [], ◌∷◌, ◌++◌, Option, Some, true, arith, refl, ap, length, length-set, sym, subst, ◌∙◌}
use Rattle.std.specs.Prelude.{Any, Contains}
use Rattle.std.proofs.lemmas.List.{take_more_set}
use Rattle.frame_rows.specs.declared.class.Use.{Use}
use Rattle.frame_rows.specs.declared.field.Field.{Field}
use Rattle.frame_rows.specs.declared.field.Values.{Values}
use Rattle.frame_rows.specs.Field.{fields, place_of, with_value}
use Rattle.frame_rows.specs.Sight.{Side}
use Rattle.frame_classes.specs.declared.found.Sample.{Sample}
use Rattle.frame_classes.specs.declared.told.Told.{Told}
use Rattle.frame_classes.specs.Found.{told_of}
use Rattle.frame_classes.specs.Splitting.{Agree, AreAllFound, IsOf}
use Rattle.frame_classes.specs.Told.{is_wanted, told_by}
use Rattle.frame_classes.proofs.Kept.{Keeps}

-- what is told of others is there, or one of the values that are left keeps it
pub record AreGoing (sides : List Side) (wanted : Option Use) (least : ℕ) (field : Field) (values : Values) (samples : List Sample) (rest : List ℕ) : Type 0 where
  pub each : (others : Values) (told : Told) → IsOf least fields others → Agree (place_of field) values others → told_by sides others ≡ Some told
      → is_wanted wanted told ≡ true → Contains (told_of samples) told ⊎ Any (Keeps sides least field others told) rest

any_by : {X : Type 0} (P : X → Type 0) (Q : Type 0) (x : X) (xs : List X) → (P x → Q) → (Any P xs → Q) → Any P (x ∷ xs) → Q
any_by P Q x xs first later (zero, y, within, is, holds) = first (subst P (sym is) holds)
any_by P Q x xs first later (suc k, y, within, is, holds) = later (k, y, omega arith, is, holds)

any_none : {X : Type 0} (P : X → Type 0) → Any P [] → ⊥
any_none P (k, y, within, is, holds) = omega arith

either : {A B C : Type 0} → (A → C) → (B → C) → A ⊎ B → C
either f g (inl a) = f a
either f g (inr b) = g b

-- a value more was looked at
pub going_on : (sides : List Side) (wanted : Option Use) (least : ℕ) (field : Field) (values : Values) (before after : List Sample) (value : ℕ) (rest : List ℕ)
    → AreGoing sides wanted least field values before (value ∷ rest) → ((told : Told) → Contains (told_of before) told → Contains (told_of after) told)
    → ((others : Values) (told : Told) → Agree (place_of field) values others → is_wanted wanted told ≡ true → Keeps sides least field others told value
    → Contains (told_of after) told)
    → AreGoing sides wanted least field values after rest
going_on sides wanted least field values before after value rest going kept found =
    record {
      each = λ others told of agree tells looked.
          either (λ there. inl (kept told there))
          (any_by (Keeps sides least field others told) (Contains (told_of after) told ⊎ Any (Keeps sides least field others told) rest) value rest
          (λ keeps. inl (found others told agree looked keeps)) (λ later. inr later)) (going.each others told of agree tells looked);
    }

-- all were looked at
pub all_gone : (sides : List Side) (wanted : Option Use) (least : ℕ) (field : Field) (values : Values) (samples : List Sample) (level : ℕ) → place_of field ≡ level
    → AreGoing sides wanted least field values samples [] → AreAllFound sides wanted least level values samples
all_gone sides wanted least field values samples level at going =
    record {
      found = λ others told of agree tells looked.
          either (λ there. there) (λ none. absurd (any_none (Keeps sides least field others told) none))
          (going.each others told of (subst (λ (n : ℕ). Agree n values others) (sym at) agree) tells looked);
    }

-- values that agree before a field do so with one value in it
pub agree_next : (level : ℕ) (field : Field) (values changed others : Values) (value : ℕ) → place_of field ≡ level → level < length values.values
    → length values.values ≡ 11 → changed ≡ with_value field value values → Agree (place_of field) values others
    → Agree (level + 1) changed (with_value field value others)
agree_next level field values changed others value at within eleven is agree =
    let long = agree.0 in
    subst (λ (v : Values). Agree (level + 1) v (with_value field value others)) (sym is)
    (subst (λ (n : ℕ). Agree (n + 1) (with_value field value values) (with_value field value others)) at (
      simp length-set (agree.0),
      take_more_set others.values (place_of field) value (omega (arith, at)) ∙ ap (λ (items : List ℕ). items ++ value ∷ []) agree.1
          ∙ sym (take_more_set values.values (place_of field) value (omega (arith, at))),
    ))

-- where no field was looked at, all values agree
pub found_by_any : (sides : List Side) (wanted : Option Use) (least : ℕ) (values other : Values) (samples : List Sample)
    → AreAllFound sides wanted least 0 values samples → AreAllFound sides wanted least 0 other samples
found_by_any sides wanted least values other samples all =
    record { found = λ others told of agree tells looked. all.found others told of (agree.0, refl) tells looked }
