-- The ports whose frames are looked at.
use Rattle.std.specs.Prelude.{◌≡◌, ◌↔◌, ◌⊎◌, ℕ, List, [], ◌∷◌, Option, Some, None, Contains}
use Rattle.std.specs.List.Sorted.{IsStrictlyIncreasing}
use Rattle.mib_state.specs.Entities.{Entities}
use Rattle.explain_findings.specs.Ports.{AreNamedPorts}
use Rattle.explain_findings.specs.Reach.{ports}

-- some ports and others, ascending, each once
pub record AreJoined (some others list : List ℕ) : Type 0 where
  pub once : IsStrictlyIncreasing list
  pub each : (port : ℕ) → Contains list port ↔ (Contains some port ⊎ Contains others port)

-- the port that is asked for, or those that entities name
abbrev pub ArePorts : Option ℕ → Entities → List ℕ → Type 0
ArePorts (Some port) e list = list ≡ port ∷ []
ArePorts None e list = AreNamedPorts e list

-- the port that is asked for, or those that either of two configurations names
abbrev pub ArePortsOfSides : Option ℕ → Entities → Entities → List ℕ → Type 0
ArePortsOfSides (Some port) e f list = (other : ℕ) → Contains list other ↔ (other ≡ port)
ArePortsOfSides None e f list = AreJoined (ports e) (ports f) list
