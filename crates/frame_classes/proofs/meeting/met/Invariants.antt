use Rattle.std.proofs.Common.{◌≡◌, take}
use Rattle.std.specs.Prelude.{filter}
use Rattle.frame_classes.specs.Meeting.{meets_use}
use Rattle.frame_classes.proofs.meeting.met.Given as goal

-- those of the rows so far
abbrev pub invariant-loop-row : goal.invariant-loop-row
invariant-loop-row l = l.kept.items ≡ filter (meets_use l.rows l.used) (take l.row-index l.side.rows.items)
