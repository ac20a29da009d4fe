-- What a control and a lane show of the world of events.
use Rattle.std.specs.Prelude.{◌≡◌, ℕ, Some, length}
use Rattle.mib_state.specs.Entities.{Entities}
use Rattle.mib_state.specs.After.{after}
use Rattle.plan_publish.specs.Control.{Progress}
use Rattle.plan_publish.specs.World.{World}

-- a control shows its desk, what is published and how much that is, and what is pending
pub record Shows (p : Progress) (w : World) : Type 0 where
  pub desk : w.desk ≡ p.desk
  pub published : w.published ≡ after p.published
  pub count : w.count ≡ length p.published
  pub pending : w.pending ≡ p.pending

-- a lane of a number that is in shows the entities that it holds
abbrev pub ShowsHeld : Entities → ℕ → World → Type 0
ShowsHeld held l w = (w.lane l).holds ≡ Some held
