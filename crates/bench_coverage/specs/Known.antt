-- Classes of frames by their first bytes and their length.
use Rattle.std.specs.Prelude.{◌≡◌, ◌<◌, ◌^◌, ℕ, List, All, Some, length, slice_get, take}
use Rattle.mib_state.specs.Entities.{Entities}
use Rattle.frame_rows.specs.declared.class.FrameClass.{FrameClass}
use Rattle.frame_rows.specs.Class.{class_of}
use Rattle.script_heads.specs.Heads.{IsHeadOf}
use Rattle.bench_coverage.specs.declared.known.Known.{Known}
use Rattle.bench_coverage.specs.declared.known.KnownClasses.{KnownClasses}

-- the class at a port of each frame that begins as a head does
abbrev pub IsClassFrom : Entities → ℕ → List ℕ → FrameClass → Type 0
IsClassFrom e port head class = (bytes : List ℕ) → All (λ b. b < 2 ^ 8) bytes → IsHeadOf bytes head → class ≡ class_of e port bytes

-- of each frame that is as long and begins alike
abbrev pub IsRight : Entities → ℕ → Known → Type 0
IsRight e port known =
    (bytes : List ℕ) → All (λ b. b < 2 ^ 8) bytes → known.length ≡ length bytes → known.front ≡ take 24 bytes → known.class ≡ class_of e port bytes

-- all that are kept are right
pub record AreKnown (e : Entities) (port : ℕ) (classes : KnownClasses) : Type 0 where
  pub each : (place : ℕ) (known : Known) → slice_get classes.places.items place ≡ Some (Some known) → IsRight e port known
