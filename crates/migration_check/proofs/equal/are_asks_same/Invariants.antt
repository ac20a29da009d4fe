use Rattle.std.proofs.Common.{◌≡◌, take}
use Rattle.std.specs.Prelude.{map}
use Rattle.frame_rows.specs.declared.row.Row.{Row}
use Rattle.migration_check.proofs.equal.are_asks_same.Given as goal

-- those that were looked at ask the same
abbrev pub invariant-loop-place : goal.invariant-loop-place
invariant-loop-place l = map (λ (row : Row). row.asks) (take l.place l.rows) ≡ map (λ (row : Row). row.asks) (take l.place l.others)
