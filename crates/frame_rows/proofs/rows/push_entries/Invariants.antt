use Rattle.std.proofs.Common.{◌≡◌, ◌++◌, take}
use Rattle.std.specs.Prelude.{All}
use Rattle.std.specs.Option.{option_map}
use Rattle.pmapper.specs.Mapper.{unmarked_of}
use Rattle.explain.specs.Order.{tried_order}
use Rattle.frame_rows.specs.Rows.{entry_rows}
use Rattle.frame_rows.specs.Treatments.{Fits}
use Rattle.frame_rows.proofs.rows.push_entries.Given as goal

-- the rows of the entries that were looked at
abbrev pub invariant-loop-number : goal.invariant-loop-number
invariant-loop-number l =
    record {
      fits : All (Fits l.table.entries) (take l.number (tried_order l.table.entries));
      rows : l.rows.items ≡ l.initial.rows.items
          ++ entry_rows l.table (option_map (λ m. unmarked_of m.now) l.mapper) 0 (take l.number (tried_order l.table.entries));
    }
