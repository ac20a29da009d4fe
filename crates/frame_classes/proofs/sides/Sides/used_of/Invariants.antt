use Rattle.std.proofs.Common.{◌≡◌, ◌++◌}
use Rattle.std.specs.Prelude.{filter, map}
use Rattle.frame_classes.specs.Silent.{is_used_at}
use Rattle.frame_classes.specs.Told.{side_by}
use Rattle.frame_classes.proofs.sides.Sides.used_of.Given as goal

-- what is left of the places that were looked at, and of the others
abbrev pub invariant-loop-place : goal.invariant-loop-place
invariant-loop-place l =
    let test = is_used_at (map side_by l.self.sides.now) l.used in
    l.places ++ filter test l.place-iterator ≡ filter test l.left
