-- What the numbers of a table's entries are found by.
use Rattle.std.specs.Prelude.{◌≡◌, Option, Some, None}
use Rattle.frame_meaning.specs.Meaning.{Table}
use Rattle.bench_forward.specs.declared.entries.EntryNumbers.{EntryNumbers}

-- they are those of this table
pub record IsNumberingOf (table : Table) (numbers : EntryNumbers) : Type 0 where
  pub index : numbers.index ≡ table.entries
  pub input_tpid : numbers.input_tpid ≡ table.settings.input_tpid

-- they are those of the table, where there is one
abbrev pub AreNumbersAt : Option Table → Option EntryNumbers → Type 0
AreNumbersAt None None = Unit {0}
AreNumbersAt (Some table) (Some numbers) = IsNumberingOf table numbers
AreNumbersAt None (Some numbers) = ⊥
AreNumbersAt (Some table) None = ⊥
