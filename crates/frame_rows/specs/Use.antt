-- What the table of a port uses for a frame (ITU-T G.988, clause 9.3.13).
use Rattle.std.specs.Prelude.{◌≡◌, ◌↔◌, ℕ, List, Option, Some, None, Result, Ok, Err}
use Rattle.std.specs.Option.{option_and_then}
use Rattle.tag_view.specs.Tag.{TagFields}
use Rattle.tag_view.specs.Frame.{Reading, type_at}
use Rattle.vlan_rule.specs.Choice.{choice, matches}
use Rattle.mib_state.specs.Entities.{Entities}
use Rattle.frame_meaning.specs.declared.reason.Reason.{Reason}
use Rattle.frame_meaning.specs.Meaning.{Table, read_at, table_at}
use Rattle.explain.specs.Order.{number_of}
use Rattle.frame_rows.specs.declared.class.Use.{Use}
use Rattle.frame_rows.specs.declared.class.Use.TheVariants.{Unread, NoTable, Entry, NoEntry}

-- the number, in the order in which entries are tried, of the entry that is used for these tags and the type behind them
abbrev pub used_number : Table → List TagFields → ℕ → Option ℕ
used_number table tags type =
    option_and_then (number_of table.entries) (choice (matches table.settings.input_tpid tags type) table.entries)

abbrev pub use_of_number : Option ℕ → Use
use_of_number None = NoEntry
use_of_number (Some number) = Entry number

-- the use of a frame that is read so, or that has a fault
abbrev pub use_by : Option Table → Result Reading Reason → Use
use_by table (Err reason) = Unread
use_by None (Ok frame) = NoTable
use_by (Some table) (Ok frame) = use_of_number (used_number table frame.tags (type_at 0 frame.rest))

-- the use of a frame that comes in at a port
unfoldable pub use_of : Entities → ℕ → List ℕ → Use
use_of e port bytes = use_by (table_at e port) (read_at (table_at e port) bytes)

-- ---- law

-- a number is there exactly where an entry is chosen
pub record NumbersTheChosen : Type 0 where
  pub chosen : (table : Table) (tags : List TagFields) (type : ℕ)
      → (used_number table tags type ≡ None) ↔ (choice (matches table.settings.input_tpid tags type) table.entries ≡ None)
