-- What opening and closing a cell answers, and leaves.
use Rattle.std.specs.Prelude.{◌≡◌, ◌⊎◌, Option, Some, None, ℤ, pos}
use Rattle.mib_upload.specs.Upload.{DeskState, start}
use Rattle.onu_cell.specs.Numbers.{already, closed, no_memory}

-- an empty cell has a new unit then, or stays empty for want of memory; a full one stays as it is
abbrev pub Opens : Option DeskState → ℤ → Option DeskState → Type 0
Opens None number after = ((number ≡ pos 0) × (after ≡ Some start)) ⊎ ((number ≡ no_memory) × (after ≡ None))
Opens (Some s) number after = (number ≡ already) × (after ≡ Some s)

abbrev pub closing_number : Option DeskState → ℤ
closing_number None = closed
closing_number (Some s) = pos 0
