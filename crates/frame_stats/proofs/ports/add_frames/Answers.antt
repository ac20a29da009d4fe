-- Bounded, so that a wrong body is refused at once.
use Rattle.std.proofs.Common.{rules}
use Rattle.frame_stats.proofs.ports.add_frames.Goals as goal

pub returns-then-frames-eq0-clause-no_zeros : goal.returns-then-frames-eq0-clause-no_zeros
returns-then-frames-eq0-clause-no_zeros c = search rules fits 30
