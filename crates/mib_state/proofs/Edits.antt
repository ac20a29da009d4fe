-- Create and Delete among instances in ascending order, by what a search finds.
use Rattle.std.proofs.Common.{◌≡◌, ℕ, ◌<◌, ◌≤◌, ◌≢◌, List, length, get_or, map, Some, Ok, Err, is_ok, true, refl, sym, ap, ◌∙◌}
use Rattle.std.specs.List as list
use Rattle.std.proofs.lemmas.Bool.{ne_eqb, eq-eqb, le-leb, lt-leb}
use mathlib.Core.Bool.{false≢true}
use Rattle.std.proofs.lemmas.List.{get_or-map, length-map}
use Rattle.managed_entity.specs.declared.attribute.Attribute.{Attribute}
use Rattle.managed_entity.specs.declared.refusal.Refusal.TheVariants.{ProcessingError, UnknownInstance, InstanceExists}
use Rattle.mib_state.specs.Entities.{blank, find, IsAscending, IsAt, IsGapFor}
use Rattle.managed_entity.specs.Instance.{Instance}
use Rattle.managed_entity.specs.Write.{created}
use Rattle.mib_state.specs.Step.{create_in, delete_in}
use Rattle.mib_state.proofs.Place.{find_at, find_gap, insert_gap, remove_at}

pub delete_found : (n : ℕ) (l : List Instance) (i : ℕ) → IsAscending l → IsAt l n i → delete_in n l ≡ Ok (list.remove l i)
unfolding delete_in
delete_found n l i up at = rw (find_at l n i up at, remove_at l n i up at) refl

pub delete_missing : (n : ℕ) (l : List Instance) (i : ℕ) → IsGapFor l n i → delete_in n l ≡ Err UnknownInstance
unfolding delete_in
delete_missing n l i gap = rw (find_gap l n i gap) refl

-- an instance that can be created isn't 0xFFFF
pub create_usual : (layout : List Attribute) (room n : ℕ) (contents : List ℕ) (l : List Instance) → is_ok (create_in layout room n contents l) ≡ true → n ≢ 65535
unfolding create_in
create_usual layout room n contents l h is = absurd (false≢true (rw (eq-eqb n 65535 is) at h))

module _ (layout : List Attribute) (room n : ℕ) (contents : List ℕ) (l : List Instance) (i : ℕ) (usual : n ≢ 65535) where
  pub create_exists : IsAscending l → IsAt l n i → create_in layout room n contents l ≡ Err InstanceExists
  unfolding create_in
  create_exists up at = rw (ne_eqb n 65535 usual, find_at l n i up at) refl

  pub create_full : IsGapFor l n i → room ≤ length l → create_in layout room n contents l ≡ Err ProcessingError
  unfolding create_in
  create_full gap full = rw (ne_eqb n 65535 usual, find_gap l n i gap, le-leb room (length l) full) refl

  pub create_done : IsGapFor l n i → length l < room → create_in layout room n contents l ≡ Ok (list.insert l i (created layout n contents))
  unfolding create_in
  create_done gap room_left = rw (ne_eqb n 65535 usual, find_gap l n i gap, lt-leb room (length l) room_left, insert_gap l i (created layout n contents) gap) refl

-- the instance that is shown at a place
pub find_shown : {R : Type 0} (shown : R → Instance) (rows : List R) (n i : ℕ) (row : R) → IsAscending (map shown rows) → IsAt (map shown rows) n i → row ≡ get_or rows i row → find n (map shown rows) ≡ Some (shown row)
find_shown shown rows n i row up at is =
    let inside = rw length-map at at.in_range in
    find_at (map shown rows) n i up at ∙ ap (λ (x : Instance). Some x) (get_or-map shown rows i row _ inside ∙ ap shown (sym is))

module _ {R : Type 0} (shown : R → Instance) (rows : List R) (n i : ℕ) (row : R) (at : IsAt (map shown rows) n i) (is : row ≡ get_or rows i row) where
  pub shown_there : get_or (map shown rows) i blank ≡ shown row
  shown_there = get_or-map shown rows i row _ (rw length-map at at.in_range) ∙ ap shown (sym is)

  pub shown_number : (shown row).number ≡ n
  shown_number = sym (ap (λ (x : Instance). x.number) shown_there) ∙ at.has_number
