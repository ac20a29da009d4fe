use Rattle.std.proofs.Common.{◌≡◌, drop}
use Rattle.frame_rows.specs.Sight.{same_tags}
use Rattle.frame_classes.proofs.sides.are_same.Given as goal

-- the tags so far are the same
abbrev pub invariant-loop-place : goal.invariant-loop-place
invariant-loop-place l = same_tags (drop l.place l.tags) (drop l.place l.others) ≡ same_tags l.tags l.others
