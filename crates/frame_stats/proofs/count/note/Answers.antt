-- Bounded, so that a wrong body is refused at once.
use Rattle.std.proofs.Common.{rules}
use Rattle.frame_stats.proofs.count.note.Goals as goal

pub returns-in-Drop-clause-bytes : goal.returns-in-Drop-clause-bytes
returns-in-Drop-clause-bytes c = search rules fits 30
