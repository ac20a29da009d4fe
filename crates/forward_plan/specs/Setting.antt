-- What a Set of one instance leaves: all instances stand where they stood.
use Rattle.std.specs.Prelude.{◌≡◌, ℕ, List, Some, set, slice_get}
use Rattle.managed_entity.specs.Class.{mapper_class, vlan_class}
use Rattle.managed_entity.specs.Instance.{Instance}
use Rattle.mib_state.specs.Entities.{Entities, replace}
use Rattle.mib_state.specs.Touch.{AreSameButOne}

-- the instances of a class, where one has come in the place of that of its number
abbrev pub IsReplaced : ℕ → List Instance → List Instance → Type 0
IsReplaced n old new = (i : Instance) × (i.number ≡ n) × (new ≡ replace i old)

-- the entities before and after a Set of instance n of a class
pub record IsSetOf (class n : ℕ) (old new : Entities) : Type 0 where
  pub same : AreSameButOne class n old new
  pub mappers : class ≡ mapper_class → IsReplaced n old.mappers new.mappers
  pub vlans : class ≡ vlan_class → IsReplaced n old.vlans new.vlans

-- the instances of a class, where another of the same number stands at a place
pub record IsSetAt (place : ℕ) (old new : List Instance) : Type 0 where
  pub before : Instance
  pub now : Instance
  pub was : slice_get old place ≡ Some before
  pub number : now.number ≡ before.number
  pub after : new ≡ set old place now
