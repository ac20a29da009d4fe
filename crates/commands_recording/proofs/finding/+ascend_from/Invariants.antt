use Rattle.std.proofs.Common.{length}
use Rattle.commands_recording.proofs.finding.+ascend_from.Given as goal

-- by how many numbers are left
abbrev pub decreases-ascend_from : goal.decreases-ascend_from
decreases-ascend_from l = length l.numbers.now
