-- What is known of a configuration between two others by the rows that a port had before it on the way.
use Rattle.std.specs.Prelude.{◌≡◌, ◌<◌, ◌⊎◌, ℕ, List, Option, Some, None, get_or, length, map}
use Rattle.mib_state.specs.Entities.{Entities}
use Rattle.frame_rows.specs.declared.class.Use.{Use}
use Rattle.frame_rows.specs.declared.row.Row.{Row}
use Rattle.frame_rows.specs.Class.{class_of}
use Rattle.frame_rows.specs.Field.{values_of}
use Rattle.frame_rows.specs.Row.{first_row}
use Rattle.frame_rows.specs.Sight.{AreSeen, IsLike, Side, Sight, sight_by_row, sight_of}
use Rattle.frame_classes.specs.Classes.{IsFrame}
use Rattle.frame_classes.specs.Differences.{IsTorn}
use Rattle.migration_check.specs.Migration.{IsHitlessAt}

-- rows at each place ask the same of a frame's fields, and stand with the same
pub record AreAskedAlike (one other : Side) : Type 0 where
  pub settings : one.settings ≡ other.settings
  pub endings : one.endings ≡ other.endings
  pub asks : map (λ row. row.asks) one.rows ≡ map (λ row. row.asks) other.rows

-- what is seen of a frame by rows
abbrev pub sight_at : Side → List ℕ → Sight
sight_at side bytes = sight_by_row side (first_row side.rows (values_of bytes)) bytes

-- by these rows each frame leaves as by the configuration before, e, or as by the one after, g, or is dropped as by one of them
pub record IsWholeBy (e g : Entities) (port : ℕ) (side : Side) : Type 0 where
  pub whole : (bytes : List ℕ) → IsFrame 0 bytes → (IsLike (sight_at side bytes) (sight_of e port bytes) → ⊥)
      → (IsLike (sight_at side bytes) (sight_of g port bytes) → ⊥) → ⊥

-- the configuration between, f, tears none of the frames that its table uses so
pub record IsHitlessBy (e f g : Entities) (port : ℕ) (used : Use) : Type 0 where
  pub whole : (bytes : List ℕ) → IsFrame 0 bytes → (class_of f port bytes).used ≡ used → IsTorn e f g port bytes → ⊥

-- it tears none of the frames whose row is another than it was
pub record ChangedAreWhole (e f g : Entities) (port : ℕ) (last next : List Row) : Type 0 where
  pub each : (place : ℕ) (d : Row) → place < length next → (get_or last place d ≡ get_or next place d) ⊎ IsHitlessBy e f g port (get_or next place d).used

-- what following a port to the configuration between gives: its rows, where none is torn
abbrev pub IsFollowed : Entities → Entities → Entities → ℕ → Option Side → Type 0
IsFollowed e f g port None = IsHitlessAt e f g port → ⊥
IsFollowed e f g port (Some side) = IsHitlessAt e f g port × AreSeen f port side
