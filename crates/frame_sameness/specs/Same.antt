-- Where two configurations of a port are the same for every frame.
use Rattle.std.specs.Prelude.{◌≡◌, ℕ, List}
use Rattle.mib_state.specs.Entities.{Entities}
use Rattle.frame_rows.specs.Class.{class_of}
use Rattle.frame_rows.specs.Sight.{sight_of}
use Rattle.frame_classes.specs.Classes.{IsFrame}

-- by both each frame of at least so many bytes has the same class, and is seen alike: it leaves with the same GEM port and bytes, or is
-- dropped for the same reason
pub record AreSame (e f : Entities) (port least : ℕ) : Type 0 where
  pub class : (bytes : List ℕ) → IsFrame least bytes → class_of e port bytes ≡ class_of f port bytes
  pub sight : (bytes : List ℕ) → IsFrame least bytes → sight_of e port bytes ≡ sight_of f port bytes
