-- The ports that managed entities name (ITU-T G.988, clauses 9.3.10 and 9.3.13).
use Rattle.std.specs.Prelude.{◌≡◌, ◌↔◌, ℕ, List, Contains, None}
use Rattle.std.specs.List.Sorted.{IsStrictlyIncreasing}
use Rattle.mib_state.specs.Entities.{Entities}
use Rattle.frame_meaning.specs.Meaning.{mapper_at, table_at}
use Rattle.explain_findings.specs.Reach.{ports}

-- these are the ports that a mapper or a table points to, ascending, each once
pub record AreNamedPorts (e : Entities) (list : List ℕ) : Type 0 where
  pub once : IsStrictlyIncreasing list
  pub each : (port : ℕ) → Contains list port ↔ Contains (ports e) port

-- ---- law

-- a port that isn't among them has no table and no mapper
pub record NothingElsewhere : Type 0 where
  pub tables : (e : Entities) (port : ℕ) → (Contains (ports e) port → ⊥) → table_at e port ≡ None
  pub mappers : (e : Entities) (port : ℕ) → (Contains (ports e) port → ⊥) → mapper_at e port ≡ None
