-- Bounded, so that a wrong body is refused at once.
use Rattle.std.proofs.Common.{rules}
use Rattle.frame_meaning.proofs.reason.Reason.code.Goals as goal

pub returns-in-NoGem : goal.returns-in-NoGem
returns-in-NoGem c = search rules fits 30
