-- Whether two configurations see every frame alike.
use Rattle.std.specs.Prelude.{ℕ, Bool, true, false, List, [], All, Contains, Option, Some, None}
use Rattle.mib_state.specs.Entities.{Entities}
use Rattle.frame_rows.specs.declared.class.FrameClass.{FrameClass}
use Rattle.frame_classes.specs.Differences.{AreDifferences, IsDifference}

-- every frame of at least so many bytes that comes in at a port is seen alike
abbrev pub AreSameAt : Entities → Entities → ℕ → ℕ → Type 0
AreSameAt e f least port = AreDifferences e f port least []

-- some such frame isn't
pub record DifferAt (e f : Entities) (least port : ℕ) : Type 0 where
  pub difference : (FrameClass × FrameClass) × List ℕ
  pub is : IsDifference e f port least difference

-- what is said of a port: that they are the same there, or that they differ
abbrev pub IsSaidAt : Entities → Entities → ℕ → ℕ → Bool → Type 0
IsSaidAt e f least port true = AreSameAt e f least port
IsSaidAt e f least port false = DifferAt e f least port

-- and of some ports: that they are the same at each, or differ at one
abbrev pub IsSaidOf : Entities → Entities → ℕ → List ℕ → Bool → Type 0
IsSaidOf e f least ports true = All (AreSameAt e f least) ports
IsSaidOf e f least ports false = (port : ℕ) × Contains ports port × DifferAt e f least port

-- and of the port that is asked for, or of every port
abbrev pub IsSaid : Entities → Entities → Option ℕ → ℕ → Bool → Type 0
IsSaid e f (Some port) least said = IsSaidAt e f least port said
IsSaid e f None least true = (port : ℕ) → AreSameAt e f least port
IsSaid e f None least false = (port : ℕ) × DifferAt e f least port
