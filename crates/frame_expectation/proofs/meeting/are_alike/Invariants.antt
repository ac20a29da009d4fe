use Rattle.std.proofs.Common.{◌≡◌, drop}
use Rattle.frame_expectation.specs.Wanted.{tags_alike}
use Rattle.frame_expectation.proofs.meeting.are_alike.Given as goal

-- the tags so far are alike
abbrev pub invariant-loop-place : goal.invariant-loop-place
invariant-loop-place l = tags_alike (drop l.place l.tags) (drop l.place l.others) ≡ tags_alike l.tags l.others
