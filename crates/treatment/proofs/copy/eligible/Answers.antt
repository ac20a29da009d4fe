-- Bounded, so that a wrong body is refused at once.
use Rattle.std.proofs.Common.{rules}
use Rattle.treatment.proofs.copy.eligible.Goals as goal

pub returns-in-Inner : goal.returns-in-Inner
returns-in-Inner c = search rules fits 30
