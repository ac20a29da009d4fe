use Rattle.std.proofs.Common.{filter, map}
use Rattle.frame_classes.specs.Left.{is_of, rows_at}
use Rattle.frame_classes.specs.Silent.{AreAlikeUntil}
use Rattle.frame_classes.specs.Told.{side_by}
use Rattle.frame_classes.proofs.sides.Sides.is_alike_until.Given as goal

-- by the rows at the places that were looked at frames are seen alike
abbrev pub invariant-loop-place : goal.invariant-loop-place
invariant-loop-place l =
    let sides = map side_by l.self.sides.now in
    let one = side_by l.beside.side.now in
    let other = side_by l.beside.next.now in
    AreAlikeUntil l.beside.field one other l.row (rows_at l.self.rows.now (filter (is_of sides l.beside.other) l.place-iterator))
    → AreAlikeUntil l.beside.field one other l.row (rows_at l.self.rows.now (filter (is_of sides l.beside.other) l.left))
