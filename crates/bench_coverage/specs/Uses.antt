-- What the table of a port uses for a frame, by the numbers that its entries have.
use Rattle.std.specs.Prelude.{◌≡◌, Option, Some, None}
use Rattle.frame_meaning.specs.Meaning.{Table}
use Rattle.bench_coverage.specs.declared.uses.EntryUses.{EntryUses}

-- what is kept of a table
pub record IsUsesOf (table : Table) (uses : EntryUses) : Type 0 where
  pub index : uses.index ≡ table.entries
  pub input_tpid : uses.input_tpid ≡ table.settings.input_tpid

-- of the table in force, where there is one
abbrev pub AreUsesAt : Option Table → Option EntryUses → Type 0
AreUsesAt None None = Unit {0}
AreUsesAt (Some table) (Some uses) = IsUsesOf table uses
AreUsesAt None (Some uses) = ⊥
AreUsesAt (Some table) None = ⊥
