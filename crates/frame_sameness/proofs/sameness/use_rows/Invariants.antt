use Rattle.std.proofs.Common.{◌≡◌, ℕ, map, take}
use Rattle.std.specs.Prelude.{All, IsTrue}
use Rattle.frame_rows.specs.Fits.{row_fits}
use Rattle.frame_sameness.specs.UseRows.{use_row}
use Rattle.frame_sameness.proofs.sameness.use_rows.Given as goal

-- those of the rows that were looked at
abbrev pub invariant-loop-row : goal.invariant-loop-row
invariant-loop-row l =
    record {
      is : l.uses.items ≡ map use_row (take l.row-index l.rows);
      fit : (input : ℕ) → All (λ row. IsTrue (row_fits input row)) l.rows → All (λ row. IsTrue (row_fits input row)) l.uses.items;
    }
