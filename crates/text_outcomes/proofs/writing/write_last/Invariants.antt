use Rattle.std.proofs.Common.{take}
use Rattle.text_outcomes.specs.Said.{IsSaidOf}
use Rattle.text_outcomes.proofs.writing.write_last.Given as goal

-- what is said of the expectations that were looked at
abbrev pub invariant-loop-expected : goal.invariant-loop-expected
invariant-loop-expected g l = IsSaidOf l.mib.entities l.asked.least (take l.expected-index l.asked.lines.now) l.hold
