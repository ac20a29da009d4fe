-- What a lane that is in holds.
use Rattle.std.specs.Prelude.{◌≡◌, ℕ, List, ◌∷◌}
use Rattle.omci_msg.specs.declared.Request.{Request}
use Rattle.mib_state.specs.Entities.{Entities}
use Rattle.mib_state.specs.After.{after}
use Rattle.plan_publish.specs.Requests.{StartsWith, StartsWithEach, version_of}

-- what is held is the plan after a list that begins with each list that the lane held, and with what it learnt. It is among the
-- lists that the lane held from now on
pub record Holds (before : List (List Request)) (learnt : List Request) (entities : Entities) (version : ℕ) (lists : List (List Request)) : Type 0 where
  pub now : List Request
  pub held : lists ≡ now ∷ before
  pub entities_are : entities ≡ after now
  pub version_is : version ≡ version_of now
  pub begins_held : StartsWithEach now before
  pub begins_learnt : StartsWith now learnt
