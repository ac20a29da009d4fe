use Rattle.std.proofs.Common.{◌≡◌, map}
use Rattle.frame_classes.specs.Left.{first_left}
use Rattle.frame_classes.specs.Told.{side_by}
use Rattle.frame_classes.proofs.sides.Sides.first.Given as goal

-- no row of the side stands at the places that were looked at
abbrev pub invariant-loop-place : goal.invariant-loop-place
invariant-loop-place l = first_left (map side_by l.self.sides.now) l.place-iterator l.side ≡ first_left (map side_by l.self.sides.now) l.left l.side
