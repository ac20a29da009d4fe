use Rattle.std.proofs.Common.{map}
use Rattle.frame_classes.specs.Silent.{AreAllAlike}
use Rattle.frame_classes.specs.Told.{side_by}
use Rattle.frame_classes.proofs.sides.Sides.are_pairs_alike.Given as goal

-- at the places that were looked at frames are seen alike
abbrev pub invariant-loop-place : goal.invariant-loop-place
invariant-loop-place l =
    let sides = map side_by l.self.sides.now in
    AreAllAlike sides l.self.rows.now l.left l.place-iterator l.beside.field l.beside.other (side_by l.beside.side.now) (side_by l.beside.next.now)
    → AreAllAlike sides l.self.rows.now l.left l.sought l.beside.field l.beside.other (side_by l.beside.side.now) (side_by l.beside.next.now)
