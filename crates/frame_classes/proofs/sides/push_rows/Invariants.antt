use Rattle.std.proofs.Common.{◌≡◌, ◌++◌, take}
use Rattle.frame_classes.proofs.sides.push_rows.Given as goal

-- the rows so far
abbrev pub invariant-loop-row : goal.invariant-loop-row
invariant-loop-row l = l.all.items ≡ l.fn.all.items ++ take l.row-index l.side.rows.items
