-- Configurations side by side.
use Rattle.std.specs.Prelude.{◌≡◌, ◌<◌, ◌≤◌, ◌+◌, ℕ, IsTrue, List, All, length, map, slice_index}
use Rattle.frame_rows.specs.declared.row.Row.{Row}
use Rattle.frame_rows.specs.declared.rows.Rows.{Rows}
use Rattle.frame_rows.specs.Fits.{row_fits}
use Rattle.frame_rows.specs.Rows.{IsMarked}
use Rattle.frame_rows.specs.Sight.{Side}
use Rattle.frame_classes.specs.Left.{count_to}
use Rattle.frame_classes.specs.Told.{rows_of_all, side_by}

-- what the rows of a side ask and read, by its input TPID
abbrev pub SideFits : Side → Type 0
SideFits side = All (λ row. IsTrue (row_fits side.settings.input_tpid row)) side.rows

-- and say which DSCP their treatments ask for
abbrev pub SideMarks : Side → Type 0
SideMarks side = All (IsMarked side.settings) side.rows

-- one to three sides, the rows of all, and how many there are up to the end of each
pub record AreBeside (sides : List Rows) (rows : List Row) (ends : List ℕ) : Type 0 where
  pub some : 0 < length sides
  pub three : length sides ≤ 3
  pub together : rows ≡ rows_of_all (map side_by sides)
  pub few : length rows ≤ 402
  pub ended : (side : ℕ) → side < 3 → slice_index ends side ≡ count_to (map side_by sides) (side + 1)
  pub fit : All SideFits (map side_by sides)
  pub marked : All SideMarks (map side_by sides)
