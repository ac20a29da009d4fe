-- Set among instances in ascending order, by what a search finds.
use Rattle.std.proofs.Common.{◌≡◌, ℕ, zero, suc, List, [], ◌∷◌, get_or, set, map, Result, Ok, Err, is_ok, refl, sym, ap, subst, ◌∙◌, true}
use Rattle.std.proofs.lemmas.List.{map-set}
use Rattle.managed_entity.specs.declared.attribute.Attribute.{Attribute}
use Rattle.managed_entity.specs.declared.refusal.Refusal.{Refusal}
use Rattle.managed_entity.specs.declared.refusal.Refusal.TheVariants.{UnknownInstance}
use Rattle.mib_state.specs.Entities.{blank, IsAscending, IsAt, IsGapFor}
use Rattle.managed_entity.specs.Instance.{Instance}
use Rattle.managed_entity.specs.Answer.{outcome_of, left_by}
use Rattle.mib_state.specs.Step.{set_in, set_found, replaced}
use Rattle.managed_entity.proofs.SetInstance.{KeepsNumber, set_number}
use Rattle.managed_entity.specs.Set.{set_instance}
use Rattle.mib_state.proofs.Place.{replace_at, ascending_set, find_gap}
use Rattle.mib_state.proofs.Edits.{find_shown, shown_there, shown_number}

pub set_outcome : (instances : List Instance) (r : Result Instance Refusal) → outcome_of (replaced instances r) ≡ outcome_of r
set_outcome instances (Ok new) = refl
set_outcome instances (Err refusal) = refl

-- writing back what is there changes nothing
same_again : (l : List Instance) (i : ℕ) → set l i (get_or l i blank) ≡ l
same_again [] i = refl
same_again (x ∷ l) zero = refl
same_again (x ∷ l) (suc i) = ap (λ rest. x ∷ rest) (same_again l i)

pub is_ok_replaced : (instances : List Instance) (r : Result Instance Refusal) → is_ok (replaced instances r) ≡ is_ok r
is_ok_replaced instances (Ok new) = refl
is_ok_replaced instances (Err refusal) = refl

set_left : (l : List Instance) (n i : ℕ) (r : Result Instance Refusal) → KeepsNumber n r → IsAscending l → IsAt l n i → set l i (left_by (get_or l i blank) r) ≡ left_by l (replaced l r)
set_left l n i (Ok new) keeps up at = sym (replace_at l n i new keeps up at)
set_left l n i (Err refusal) keeps up at = same_again l i

module _ {R : Type 0} (shown : R → Instance) (rows : List R) (n i : ℕ) (row : R) (up : IsAscending (map shown rows)) (at : IsAt (map shown rows) n i) (is : row ≡ get_or rows i row) where
  there : get_or (map shown rows) i blank ≡ shown row
  there = shown_there shown rows n i row at is

  number : (shown row).number ≡ n
  number = shown_number shown rows n i row at is

  module _ (layout : List Attribute) (mask : ℕ) (bytes : List ℕ) where
    set_in_at : set_in layout n mask bytes (map shown rows) ≡ replaced (map shown rows) (set_instance layout mask bytes (shown row))
    unfolding set_in
    set_in_at = ap (set_found layout mask bytes (map shown rows)) (find_shown shown rows n i row up at is)

    -- a Set in the class that isn't refused is none of the row
    pub accepted_at : is_ok (set_in layout n mask bytes (map shown rows)) ≡ true → is_ok (set_instance layout mask bytes (shown row)) ≡ true
    accepted_at h = sym (is_ok_replaced (map shown rows) (set_instance layout mask bytes (shown row))) ∙ rw set_in_at at h

    -- the row with what is left
    pub set_left_at : (new : R) → shown new ≡ left_by (shown row) (set_instance layout mask bytes (shown row)) → map shown (set rows i new) ≡ left_by (map shown rows) (set_in layout n mask bytes (map shown rows))
    set_left_at new e =
        let r = set_instance layout mask bytes (shown row) in
        map-set shown rows i new
        ∙ ap (set (map shown rows) i) e
        ∙ ap (λ (x : Instance). set (map shown rows) i (left_by x r)) (sym there)
        ∙ set_left (map shown rows) n i r (subst (λ m. KeepsNumber m r) number (set_number layout mask bytes (shown row))) up at
        ∙ ap (left_by (map shown rows)) (sym set_in_at)

  -- a row of the same number keeps the order
  pub ascending_again : (new : R) → (shown new).number ≡ (shown row).number → IsAscending (map shown (set rows i new))
  ascending_again new e = rw map-set (ascending_set (map shown rows) n i (shown new) (e ∙ number) up at)

pub set_missing : (layout : List Attribute) (n mask : ℕ) (bytes : List ℕ) (l : List Instance) (i : ℕ) → IsGapFor l n i → set_in layout n mask bytes l ≡ Err UnknownInstance
unfolding set_in
set_missing layout n mask bytes l i gap = ap (set_found layout mask bytes l) (find_gap l n i gap)
