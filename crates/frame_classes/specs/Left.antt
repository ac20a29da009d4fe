-- The rows that are left, and those of one side among them.
use Rattle.std.specs.Prelude.{◌≡◌, ℕ, ◌+◌, Bool, ◌&&◌, List, Option, drop, filter, length, nat_le, nat_lt, slice_get, take}
use Rattle.std.specs.List.{filter_map}
use Rattle.frame_rows.specs.declared.field.Field.{Field}
use Rattle.frame_rows.specs.declared.field.Values.{Values}
use Rattle.frame_rows.specs.declared.row.Row.{Row}
use Rattle.frame_rows.specs.Row.{passes}
use Rattle.frame_rows.specs.Sight.{Side}
use Rattle.frame_classes.specs.Told.{rows_of_all}

-- the rows at some places
abbrev pub rows_at : List Row → List ℕ → List Row
rows_at rows places = filter_map (λ place. slice_get rows place) places

-- these are the places of the rows of some that ask nothing else of some fields
abbrev pub AreLeft : List Row → List Field → Values → List ℕ → Type 0
AreLeft rows some values places = rows_at rows places ≡ filter (λ row. passes some row values) rows

-- how many rows there are up to a side
abbrev pub count_to : List Side → ℕ → ℕ
count_to sides side = length (rows_of_all (take side sides))

-- a place is one of a side's rows
abbrev pub is_of : List Side → ℕ → ℕ → Bool
is_of sides side place = nat_le (count_to sides side) place && nat_lt place (count_to sides (side + 1))

abbrev pub rows_of_side : List Side → ℕ → List Row
rows_of_side sides side = rows_of_all (take 1 (drop side sides))

-- these are the places of the rows of all sides that ask nothing else of some fields, and so it is for each side
pub record AreLeftOf (sides : List Side) (some : List Field) (values : Values) (places : List ℕ) : Type 0 where
  pub all : AreLeft (rows_of_all sides) some values places
  pub each : (side : ℕ)
      → rows_at (rows_of_all sides) (filter (is_of sides side) places) ≡ filter (λ row. passes some row values) (rows_of_side sides side)

-- the first row of a side that is left
abbrev pub first_left : List Side → List ℕ → ℕ → Option Row
first_left sides places side = slice_get (rows_at (rows_of_all sides) (filter (is_of sides side) places)) 0
