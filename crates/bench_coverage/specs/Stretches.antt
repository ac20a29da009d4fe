-- Stretches: versions in a row by which a port means the same for every frame.
use Rattle.std.specs.Prelude.{ℕ, zero, suc, ◌+◌, ◌<◌, ◌≤◌, List, take}
use Rattle.omci_msg.specs.declared.request.Request.{Request}
use Rattle.mib_state.specs.Entities.{Entities}
use Rattle.mib_state.specs.After.{after}
use Rattle.frame_sameness.specs.Same.{AreSame}

-- the entities by each version, where the first so many requests belong to version 0
abbrev pub entities_by : List Request → ℕ → ℕ → Entities
entities_by requests base v = after (take (base + v) requests)

-- by entities of a version, and of the next one, each frame of at least so many bytes has the same class at a port, and is seen alike
abbrev pub IsStep : (ℕ → Entities) → ℕ → ℕ → ℕ → Type 0
IsStep entities port least v = AreSame (entities v) (entities (v + 1)) port least

-- a version begins a stretch: it is the first of all, or some frame tells it from the one before
abbrev pub Begins : (ℕ → Entities) → ℕ → ℕ → ℕ → Type 0
Begins entities port least zero = Unit {0}
Begins entities port least (suc v) = ¬ (IsStep entities port least v)

-- a version is one of the stretch that begins with another
pub record IsInStretch (entities : ℕ → Entities) (port least first v : ℕ) : Type 0 where
  pub begins : Begins entities port least first
  pub from : first ≤ v
  pub row : (w : ℕ) → first ≤ w → w < v → IsStep entities port least w
