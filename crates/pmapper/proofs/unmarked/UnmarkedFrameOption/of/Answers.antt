-- Bounded, so that a wrong body is refused at once.
use Rattle.std.proofs.Common.{rules}
use Rattle.pmapper.proofs.unmarked.UnmarkedFrameOption.of.Goals as goal

pub returns-in-0 : goal.returns-in-0
returns-in-0 c = search rules fits 30
