-- An instance that stands at a place of a class.
use Rattle.std.proofs.Common.{◌≡◌, ℕ, List, Option, Some, None, sym, ap, ◌∙◌, refl}
use Rattle.std.specs.Prelude.{option_map, slice_get, slice_index_or}
use Rattle.std.proofs.lemmas.Option.{get_or_from_slice_get}
use Rattle.managed_entity.specs.declared.class.Class.{Class}
use Rattle.managed_entity.specs.Class.{class_number}
use Rattle.managed_entity.specs.Instance.{Instance}
use Rattle.mib_state.specs.Entities.{Entities, blank, instances_of, number_at}
use Rattle.mib_state.specs.Held.{IsHeld}

numbered : (l : List Instance) (place n : ℕ) (o : Option Instance) → slice_get l place ≡ o → Some n ≡ option_map (λ (i : Instance). i.number) o
    → (slice_get l place ≡ Some (slice_index_or l place blank)) × (n ≡ number_at l place)
numbered l place n None at is = cc
numbered l place n (Some i) at is =
    let there : slice_index_or l place blank ≡ i = get_or_from_slice_get l place i blank at in
    let same : n ≡ i.number = cc in
    (at ∙ ap (λ (x : Instance). Some x) (sym there), same ∙ ap (λ (x : Instance). x.number) (sym there))

-- where an instance has a number, it is held
pub is_held : (e : Entities) (class : Class) (place n : ℕ) → Some n ≡ option_map (λ (i : Instance). i.number) (slice_get (instances_of e (class_number class)) place)
    → IsHeld e class place n
is_held e class place n is =
    let both = numbered (instances_of e (class_number class)) place n (slice_get (instances_of e (class_number class)) place) refl is in
    record { there = both.0; has_number = both.1 }
