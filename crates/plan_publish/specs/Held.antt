-- What a lane that is in holds, by its guard.
use Rattle.std.specs.Prelude.{ℕ, List}
use Rattle.omci_msg.specs.declared.Request.{Request}
use Rattle.mib_state.specs.Entities.{Entities}
use Rattle.plan_publish.specs.declared.held.Entered.{Ghosts}
use Rattle.plan_publish.specs.declared.held.Guard.{Guard}
use Rattle.plan_publish.specs.declared.lane.Lane.{Lane}

-- the entities of the held version
abbrev pub held_entities : {X : Type 0} {G : Ghosts X} → Guard X G → Entities
held_entities {X} {G} h = G.entities h.reading

-- the number of the held version
abbrev pub held_version : {X : Type 0} {G : Ghosts X} → Guard X G → ℕ
held_version {X} {G} h = G.version h.reading

-- the lists that the lane held, the one that it holds being the first
abbrev pub held_lists : {X : Type 0} {G : Ghosts X} → Guard X G → List (List Request)
held_lists {X} {G} h = (G.knows h.reading).held

-- the lane that is in
abbrev pub held_lane : {X : Type 0} {G : Ghosts X} → Guard X G → Lane
held_lane h = h.lane.now
