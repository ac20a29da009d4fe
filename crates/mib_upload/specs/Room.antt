-- How many rows there may be, by the numbers of bytes of the attributes of each class.
use Rattle.std.specs.Prelude.{ℕ, zero, suc, ◌+◌, ◌-◌, ◌*◌, nat_le, List, [], ◌∷◌, if◌then◌else◌}
use Rattle.managed_entity.specs.declared.attribute.Attribute.{Attribute}
use Rattle.managed_entity.specs.Class.{attributes_of, room_of, table_at, width_at}
use Rattle.mib_upload.specs.Rows.{row_room}

-- the widths of so many attributes from number n on, in bytes, without that of a table
abbrev pub widths_from : List Attribute → ℕ → ℕ → List ℕ
widths_from layout n zero = []
widths_from layout n (suc count) =
    if table_at layout (n - 1) then widths_from layout (suc n) count else width_at layout (n - 1) ∷ widths_from layout (suc n) count

-- the rows that a begun row of so many bytes and attributes of these widths make, the begun row among them
abbrev pub rows_by : ℕ → List ℕ → ℕ
rows_by begun [] = 1
rows_by begun (w ∷ rest) = if nat_le (begun + w) row_room then rows_by (begun + w) rest else suc (rows_by w rest)

-- the most rows of an instance of a class
unfoldable pub instance_room : ℕ → ℕ
instance_room class = rows_by 0 (widths_from (attributes_of class) 1 16)

-- the most rows of a class
unfoldable pub class_room : ℕ → ℕ
class_room class = instance_room class * room_of class

-- the most rows
abbrev pub shelf_room : ℕ
shelf_room = 609
