-- Parts of which it is forgotten what they are of, one after another.
use Rattle.std.proofs.Common.{◌≡◌, ◌⊎◌, ℕ, false, zero, suc, ◌+◌, ◌<◌, List, [], ◌∷◌, ◌++◌, length, set, Option, Some, None, refl, ap, sym, ◌∙◌, arith, inl, inr}
use Rattle.std.specs.Prelude.{is_some, slice_get}
use Rattle.std.proofs.lemmas.Bool.{cases_eq, true≢false}
use Rattle.std.proofs.lemmas.List.{get_or-set_other, get_or-set_same, length-set}
use Rattle.std.proofs.lemmas.Option.{get_or_from_slice_get, none-some, same_Some, slice_get-get_or, slice_get_within}
use Rattle.forward_plan.specs.declared.part.Part.{Part}
use Rattle.forward_plan.specs.Parts.{AreForgotten}

-- the first so many are, or may stay, and the others are as they were
pub record AreFirstForgotten {T : Type 0} (May : Part T → Type 0) (old new : List (Part T)) (n : ℕ) : Type 0 where
  pub len : length new ≡ length old
  pub each : (k : ℕ) (part : Part T) → slice_get new k ≡ Some part → (part.of ≡ None) ⊎ ((slice_get old k ≡ Some part) × (k < n → May part))

module _ {T : Type 0} (May : Part T → Type 0) (old : List (Part T)) where
  pub none_forgotten : AreFirstForgotten May old old 0
  none_forgotten = record { len = refl; each = λ k part held. inr (held, λ before. absurd (omega arith)) }

  pub all_forgotten : (new : List (Part T)) (n : ℕ) → length new ≡ n → AreFirstForgotten May old new n → AreForgotten May old new
  all_forgotten new n all first = record {
    len = first.len;
    each = λ k part held. elim (first.each k part held) [
      | inl none ↦ inl none
      | inr stays ↦ let within : k < length new = slice_get_within new k part held in inr (stays.0, stays.1 (omega (arith, all)))
    ];
  }

  -- one more, which may stay
  pub stays_more : (new : List (Part T)) (n : ℕ) → ((part : Part T) → slice_get new n ≡ Some part → May part) → AreFirstForgotten May old new n
      → AreFirstForgotten May old new (n + 1)
  stays_more new n may first = record {
    len = first.len;
    each = λ k part held. elim (first.each k part held) [
      | inl none ↦ inl none
      | inr stays ↦ inr (
        stays.0,
        λ before. elim (cases_eq k n) [
          | inl same ↦ may part (ap (slice_get new) (sym same) ∙ held)
          | inr differs ↦ stays.1 (omega arith)
        ],
      )
    ];
  }

  -- one more, which is forgotten
  pub forgets_more : (new : List (Part T)) (n : ℕ) (part : Part T) → n < length new → part.of ≡ None → AreFirstForgotten May old new n
      → AreFirstForgotten May old (set new n part) (n + 1)
  forgets_more new n part within none first = record {
    len = length-set new n part ∙ first.len;
    each = λ k other held. elim (cases_eq k n) [
      | inl same ↦
          let long : n < length (set new n part) = omega (arith, length-set new n part) in
          let there : slice_get (set new n part) n ≡ Some part = slice_get-get_or (set new n part) n part long ∙ ap Some (get_or-set_same new n part part within) in
          let it : other ≡ part = same_Some other part (sym held ∙ (ap (slice_get (set new n part)) same ∙ there)) in
          inl (ap (λ (p : Part T). p.of) it ∙ none)
      | inr differs ↦
          let inside : k < length (set new n part) = slice_get_within (set new n part) k other held in
          let short : k < length new = omega (arith, length-set new n part) in
          let was : slice_get new k ≡ Some other =
          slice_get-get_or new k other short
          ∙ ap Some (sym (get_or-set_other new n k part other differs) ∙ get_or_from_slice_get (set new n part) k other other held) in
          elim (first.each k other was) [
            | inl none_there ↦ inl none_there
            | inr stays ↦ inr (stays.0, λ before. stays.1 (omega arith))
          ]
    ];
  }

-- one more part of no instance
pub one_more_spare : {T : Type 0} (parts : List (Part T)) (part : Part T) → part.of ≡ None → AreForgotten (λ (p : Part T). ⊥) parts parts
    → AreForgotten (λ (p : Part T). ⊥) (parts ++ part ∷ []) (parts ++ part ∷ [])
one_more_spare {T} parts part none all = record { len = refl; each = λ k p held. inl (by_place parts (λ j q there. only parts j q (all.each j q there)) k p held) }
  where
    only : (old : List (Part T)) (j : ℕ) (q : Part T) → (q.of ≡ None) ⊎ ((slice_get old j ≡ Some q) × ⊥) → q.of ≡ None
    only old j q (inl is) = is
    only old j q (inr stays) = absurd stays.1

    by_place : (l : List (Part T)) → ((j : ℕ) (q : Part T) → slice_get l j ≡ Some q → q.of ≡ None)
        → (k : ℕ) (p : Part T) → slice_get (l ++ part ∷ []) k ≡ Some p → p.of ≡ None
    by_place [] before zero p held = ap (λ (q : Part T). q.of) (same_Some p part (sym held)) ∙ none
    by_place [] before (suc k) p held = absurd (none-some p held)
    by_place (x ∷ l) before zero p held = before zero p held
    by_place (x ∷ l) before (suc k) p held = by_place l (λ j q there. before (suc j) q there) k p held

-- one more, which is of none
pub none_more : {T : Type 0} (May : Part T → Type 0) (old new : List (Part T)) (n : ℕ) → ((part : Part T) → slice_get new n ≡ Some part → part.of ≡ None)
    → AreFirstForgotten May old new n → AreFirstForgotten May old new (n + 1)
none_more May old new n none first = record {
  len = first.len;
  each = λ k part held. elim (cases_eq k n) [
    | inl same ↦ inl (none part (ap (slice_get new) (sym same) ∙ held))
    | inr differs ↦ elim (first.each k part held) [
      | inl is ↦ inl is
      | inr stays ↦ inr (stays.0, λ before. stays.1 (omega arith))
    ]
  ];
}

pub is_none : (o : Option ℕ) → is_some o ≡ false → o ≡ None
is_none None is = refl
is_none (Some n) is = absurd (true≢false is)
