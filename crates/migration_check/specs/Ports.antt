-- The ports at which frames are looked at.
use Rattle.std.specs.Prelude.{◌⊎◌, ◌≤◌, ℕ, List, Contains, length}
use Rattle.omci_msg.specs.declared.Request.{Request}
use Rattle.mib_state.specs.Entities.{Entities}
use Rattle.explain_findings.specs.Reach.{ports}
use Rattle.migration_check.specs.Migration.{version}

-- none is left out of some ports and those that entities name
pub record AreAdded (some : List ℕ) (e : Entities) (list : List ℕ) : Type 0 where
  pub each : (port : ℕ) → Contains some port ⊎ Contains (ports e) port → Contains list port

-- none is left out that any of two configurations names
pub record AreNamedBy (e f : Entities) (list : List ℕ) : Type 0 where
  pub one : (port : ℕ) → Contains (ports e) port → Contains list port
  pub other : (port : ℕ) → Contains (ports f) port → Contains list port

-- none is left out that any configuration on a way names, from the first to the last
pub record AreNamedOnWay (e : Entities) (requests : List Request) (list : List ℕ) : Type 0 where
  pub each : (count port : ℕ) → count ≤ length requests → Contains (ports (version e requests count)) port → Contains list port
