use Rattle.std.proofs.Common.{◌≡◌, map, take}
use Rattle.frame_classes.specs.Told.{rows_of_all, side_by}
use Rattle.frame_classes.proofs.sides.rows_of.Given as goal

-- the rows of the sides so far
abbrev pub invariant-loop-side : goal.invariant-loop-side
invariant-loop-side l = l.all.items ≡ rows_of_all (map side_by (take l.side-index l.sides))
