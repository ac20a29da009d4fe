-- What a Set leaves of an instance.
use Rattle.std.proofs.Common.{◌≡◌, ℕ, List, length, Result, Ok, Err, is_ok, Bool, cond, ◌≤◌, refl, sym, ap, ◌∙◌, true, false}
use Rattle.std.specs.Prelude.{not, ◌&&◌, ◌==◌, nat_lt}
use Rattle.std.proofs.lemmas.Bool.{eqb-true, ltb-false}
use mathlib.Core.Bool.{false≢true}
use Rattle.managed_entity.specs.declared.attribute.Attribute.{Attribute}
use Rattle.managed_entity.specs.declared.refusal.Refusal.{Refusal}
use Rattle.managed_entity.specs.declared.refusal.Refusal.TheVariants.{AttributesFailed, ParameterError}
use Rattle.managed_entity.specs.Instance.{Instance, shown_as}
use Rattle.managed_entity.specs.Mask.{unknown_of, unwritable_of, named_width}
use Rattle.managed_entity.specs.Answer.{outcome_of, left_by}
use Rattle.managed_entity.specs.Set.{set_instance, with_entries, entries_after, entry_at}
use Rattle.managed_entity.specs.Write.{written}

-- a Set leaves the number
abbrev pub KeepsNumber : ℕ → Result Instance Refusal → Type 0
KeepsNumber n (Ok new) = new.number ≡ n
KeepsNumber n (Err refusal) = Unit {0}

with_entries_number : (mask : ℕ) (layout : List Attribute) (bytes : List ℕ) (i : Instance) (r : Result (List (List ℕ)) Refusal) → KeepsNumber i.number (with_entries mask layout bytes i r)
with_entries_number mask layout bytes i (Ok entries) = refl
with_entries_number mask layout bytes i (Err refusal) = tt

chosen_number : (b c : Bool) (n : ℕ) (x y : Refusal) (r : Result Instance Refusal) → KeepsNumber n r → KeepsNumber n (cond b (Err x) (cond c (Err y) r))
chosen_number true c n x y r k = tt
chosen_number false true n x y r k = tt
chosen_number false false n x y r k = k

pub set_number : (layout : List Attribute) (mask : ℕ) (bytes : List ℕ) (i : Instance) → KeepsNumber i.number (set_instance layout mask bytes i)
unfolding set_instance
set_number layout mask bytes i =
    let unknown = unknown_of mask (length layout) in
    let unwritable = unwritable_of mask 0 layout in
    let r = entries_after (entry_at mask 0 layout) bytes i.entries in
    chosen_number (not (unknown == 0 && unwritable == 0)) (nat_lt 30 (named_width mask 0 layout)) i.number (AttributesFailed unknown unwritable) ParameterError (with_entries mask layout bytes i r) (with_entries_number mask layout bytes i r)

-- ---- a Set that isn't refused

-- neither test refuses, and what follows is left
passed : (b c : Bool) (x y : Refusal) (r : Result Instance Refusal) → is_ok (cond b (Err x) (cond c (Err y) r)) ≡ true
    → (b ≡ false) × (c ≡ false) × (is_ok r ≡ true) × (cond b (Err x) (cond c (Err y) r) ≡ r)
passed true c x y r h = absurd (false≢true h)
passed false true x y r h = absurd (false≢true h)
passed false false x y r h = (refl, refl, h, refl)

second_holds : (a b : Bool) → not (a && b) ≡ false → b ≡ true
second_holds true true h = refl
second_holds true false h = absurd (false≢true (sym h))
second_holds false b h = absurd (false≢true (sym h))

pub outcome_of_with_entries : (mask : ℕ) (layout : List Attribute) (bytes : List ℕ) (i : Instance) (r : Result (List (List ℕ)) Refusal) → outcome_of (with_entries mask layout bytes i r) ≡ outcome_of r
outcome_of_with_entries mask layout bytes i (Ok entries) = refl
outcome_of_with_entries mask layout bytes i (Err refusal) = refl

with_entries_left : (mask : ℕ) (layout : List Attribute) (bytes : List ℕ) (i : Instance) (r : Result (List (List ℕ)) Refusal) → is_ok (with_entries mask layout bytes i r) ≡ true
    → shown_as i.number (written mask 0 layout bytes i.values) (left_by i.entries r) ≡ left_by i (with_entries mask layout bytes i r)
with_entries_left mask layout bytes i (Ok entries) h = refl
with_entries_left mask layout bytes i (Err refusal) h = absurd (false≢true h)

module _ (layout : List Attribute) (mask : ℕ) (bytes : List ℕ) (i : Instance) (accepted : is_ok (set_instance layout mask bytes i) ≡ true) where
  tests : (not (unknown_of mask (length layout) == 0 && unwritable_of mask 0 layout == 0) ≡ false)
      × (nat_lt 30 (named_width mask 0 layout) ≡ false)
      × (is_ok (with_entries mask layout bytes i (entries_after (entry_at mask 0 layout) bytes i.entries)) ≡ true)
      × (set_instance layout mask bytes i ≡ with_entries mask layout bytes i (entries_after (entry_at mask 0 layout) bytes i.entries))
  unfolding set_instance
  tests =
      let unknown = unknown_of mask (length layout) in
      let unwritable = unwritable_of mask 0 layout in
      let r = with_entries mask layout bytes i (entries_after (entry_at mask 0 layout) bytes i.entries) in
      passed (not (unknown == 0 && unwritable == 0)) (nat_lt 30 (named_width mask 0 layout)) (AttributesFailed unknown unwritable) ParameterError r accepted

  -- each named attribute can be written
  pub all_writable : unwritable_of mask 0 layout ≡ 0
  all_writable = eqb-true _ _ (second_holds (unknown_of mask (length layout) == 0) _ tests.0)

  pub values_fit : named_width mask 0 layout ≤ 30
  values_fit = ltb-false 30 _ tests.1

  -- what writing it leaves
  pub written_left : shown_as i.number (written mask 0 layout bytes i.values) (left_by i.entries (entries_after (entry_at mask 0 layout) bytes i.entries))
      ≡ left_by i (set_instance layout mask bytes i)
  written_left = with_entries_left mask layout bytes i _ tests.2 ∙ ap (left_by i) (sym tests.3)

-- the same of an instance by its parts
pub written_as : (layout : List Attribute) (n : ℕ) (values entries new_values new_entries : List (List ℕ)) (mask m : ℕ) (bytes b : List ℕ) → m ≡ mask → b ≡ bytes
    → new_values ≡ written m 0 layout b values → new_entries ≡ left_by entries (entries_after (entry_at m 0 layout) b entries)
    → is_ok (set_instance layout mask bytes (shown_as n values entries)) ≡ true
    → shown_as n new_values new_entries ≡ left_by (shown_as n values entries) (set_instance layout mask bytes (shown_as n values entries))
written_as layout n values entries new_values new_entries mask m bytes b same_mask same_bytes is_values is_entries accepted =
    rw (is_values, is_entries, same_mask, same_bytes) (written_left layout mask bytes (shown_as n values entries) accepted)
