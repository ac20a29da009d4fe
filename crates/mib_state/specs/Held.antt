-- One instance that a MIB holds, with its class.
use Rattle.std.specs.Prelude.{ℕ, ◌≡◌, Some, slice_get, slice_index_or}
use Rattle.managed_entity.specs.declared.class.Class.{Class}
use Rattle.managed_entity.specs.Class.{class_number}
use Rattle.managed_entity.specs.Instance.{Instance}
use Rattle.mib_state.specs.Entities.{Entities, blank, instances_of, number_at}

-- an instance with its class
pub record Entity : Type 0 where
  pub class : ℕ
  pub instance : Instance

abbrev pub of_class : ℕ → Instance → Entity
of_class class i = record { class = class; instance = i }

-- the instance that stands at a place of a class
abbrev pub held_at : Entities → Class → ℕ → Entity
held_at e class place = of_class (class_number class) (slice_index_or (instances_of e (class_number class)) place blank)

-- an instance stands there, and has the number
pub record IsHeld (e : Entities) (class : Class) (place n : ℕ) : Type 0 where
  pub there : slice_get (instances_of e (class_number class)) place ≡ Some (slice_index_or (instances_of e (class_number class)) place blank)
  pub has_number : n ≡ number_at (instances_of e (class_number class)) place
