-- What is compiled of the instances of a class, each by itself.
use Rattle.std.specs.Prelude.{◌≡◌, ◌≢◌, ◌⊎◌, ◌<◌, ◌≤◌, ℕ, List, Option, None, Some, length, slice_get}
use Rattle.managed_entity.specs.Instance.{Instance}
use Rattle.mib_state.specs.Entities.{Entities, find}
use Rattle.port_plan.specs.declared.routes.Routes.{Routes}
use Rattle.port_plan.specs.Plan.{AreRoutes, TablePlan, transparent}
use Rattle.frame_meaning.specs.Meaning.{table_of}
use Rattle.forward_plan.specs.declared.part.Part.{Part}

-- what a table is compiled to
abbrev pub IsTable : Instance → TablePlan → Type 0
IsTable vlan compiled = compiled.table ≡ table_of vlan

-- what a mapper is compiled to
abbrev pub IsMapper : Entities → Instance → Routes → Type 0
IsMapper e mapper routes = AreRoutes e (Some mapper) routes

-- a part that is kept of an instance is what that instance is compiled to, if there is one
abbrev pub IsRight : {T : Type 0} → (Instance → T → Type 0) → List Instance → Part T → Type 0
IsRight Is instances part = (n : ℕ) (i : Instance) → part.of ≡ Some n → find n instances ≡ Some i → Is i part.compiled

abbrev pub AreRight : {T : Type 0} → (Instance → T → Type 0) → List Instance → List (Part T) → Type 0
AreRight Is instances parts = (k : ℕ) (part : Part _) → slice_get parts k ≡ Some part → IsRight Is instances part

-- at a place stands what an instance is compiled to
pub record IsKeptIn {T : Type 0} (Is : Instance → T → Type 0) (parts : List (Part T)) (place : ℕ) (i : Instance) : Type 0 where
  pub kept : Part T
  pub held : slice_get parts place ≡ Some kept
  pub right : Is i kept.compiled

-- at the places of the first instances stands what these are compiled to
abbrev pub AreFirstKept : {T : Type 0} → (Instance → T → Type 0) → List Instance → List (Part T) → ℕ → Type 0
AreFirstKept Is instances parts n = (place : ℕ) (i : Instance) → place < n → slice_get instances place ≡ Some i → IsKeptIn Is parts place i

-- the parts of the instances of a class: each is right, wherever it stands, and each instance has one at its place
pub record AreParts {T : Type 0} (Is : Instance → T → Type 0) (instances : List Instance) (parts : List (Part T)) : Type 0 where
  pub right : AreRight Is instances parts
  pub kept : (place : ℕ) (i : Instance) → slice_get instances place ≡ Some i → IsKeptIn Is parts place i

-- ---- parts that move, and parts that are forgotten

-- from a place on, the parts stand in another order
pub record AreMoved {T : Type 0} (old new : List (Part T)) (place : ℕ) : Type 0 where
  pub len : length new ≡ length old
  pub before : (k : ℕ) → k < place → slice_get new k ≡ slice_get old k
  pub each : (k : ℕ) (part : Part T) → slice_get new k ≡ Some part → (j : ℕ) × (slice_get old j ≡ Some part)

-- a part at a place is kept of the instance of a number
pub record IsPartOf {T : Type 0} (parts : List (Part T)) (place number : ℕ) : Type 0 where
  pub part : Part T
  pub held : slice_get parts place ≡ Some part
  pub of : part.of ≡ Some number

-- of the parts from a place on and before another none is of the instance of a number, or, without a number, of no instance
abbrev pub NoneIsOf : {T : Type 0} → List (Part T) → ℕ → ℕ → Option ℕ → Type 0
NoneIsOf parts from to of = (k : ℕ) (part : Part _) → from ≤ k → k < to → slice_get parts k ≡ Some part → part.of ≢ of

-- each part is kept of no instance now, or stays, for it may
pub record AreForgotten {T : Type 0} (May : Part T → Type 0) (old new : List (Part T)) : Type 0 where
  pub len : length new ≡ length old
  pub each : (k : ℕ) (part : Part T) → slice_get new k ≡ Some part → (part.of ≡ None) ⊎ ((slice_get old k ≡ Some part) × May part)

-- ---- what stands for none

-- what stands for a table or a mapper that a port doesn't have
pub record AreNone (bare : TablePlan) (unmapped : Routes) : Type 0 where
  pub table : bare.table ≡ transparent
  pub routes : (e : Entities) → AreRoutes e None unmapped
