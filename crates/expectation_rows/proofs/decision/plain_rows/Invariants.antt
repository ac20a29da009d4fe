use Rattle.std.proofs.Common.{◌≡◌, map, take}
use Rattle.expectation_rows.specs.Decision.{plain}
use Rattle.expectation_rows.proofs.decision.plain_rows.Given as goal

-- the rows so far
abbrev pub invariant-loop-row : goal.invariant-loop-row
invariant-loop-row l = l.plainer.items ≡ map plain (take l.row-index l.rows)
