-- Bounded, so that a wrong body is refused at once.
use Rattle.frame_meaning.specs.Meaning.{meaning}
use Rattle.std.proofs.Common.{rules}
use Rattle.frame_meaning.proofs.walk.plain_walk.Goals as goal

pub returns-in-Ok-clause-verdict : goal.returns-in-Ok-clause-verdict
unfolding meaning
returns-in-Ok-clause-verdict c = search rules fits 30
