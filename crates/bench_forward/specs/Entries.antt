-- Which entry of the table in force at a port is used for a frame, by the number that it has in the order in which entries are tried.
use Rattle.std.specs.Prelude.{◌≡◌, ◌<◌, ℕ, List, Option, Some, None, Result, Ok, Err, length, option_and_then, slice_index}
use Rattle.tag_view.specs.Frame.{Reading, frame_of, type_at}
use Rattle.tag_view.specs.declared.fault.FrameFault.{FrameFault}
use Rattle.vlan_rule.specs.Choice.{choice, matches}
use Rattle.mib_state.specs.Entities.{Entities}
use Rattle.frame_meaning.specs.Meaning.{Table, table_at}
use Rattle.explain.specs.Order.{number_of}

-- the number of the entry of a table that is used for a frame, as this reads; None where no entry is
abbrev pub number_used : Table → Result Reading FrameFault → Option ℕ
number_used table (Err fault) = None
number_used table (Ok frame) =
    option_and_then (number_of table.entries)
    (choice (matches table.settings.input_tpid frame.tags (type_at 0 frame.rest)) table.entries)

-- the same by the table in force; None where none is, too
abbrev pub number_at : Option Table → List ℕ → Option ℕ
number_at table bytes = option_and_then (λ table. number_used table (frame_of table.settings.input_tpid bytes)) table

-- the same at a port
unfoldable pub entry_number : Entities → ℕ → List ℕ → Option ℕ
entry_number e port bytes = number_at (table_at e port) bytes

-- these are the numbers of entries, by their places
pub record AreNumbered (entries : List (List ℕ)) (numbers : List ℕ) : Type 0 where
  pub every : length numbers ≡ length entries
  pub number : (place : ℕ) → place < length entries → number_of entries place ≡ Some (slice_index numbers place)
