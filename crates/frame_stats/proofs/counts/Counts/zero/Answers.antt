-- Bounded, so that a wrong body is refused at once.
use Rattle.std.proofs.Common.{rules}
use Rattle.frame_stats.proofs.counts.Counts.zero.Goals as goal

pub returns : goal.returns
returns c = search rules fits 30
