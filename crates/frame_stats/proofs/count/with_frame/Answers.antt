-- Bounded, so that a wrong body is refused at once.
use Rattle.frame_meaning.proofs.Spellings.{spelled_lengths}
use Rattle.std.proofs.Common.{rules}
use Rattle.frame_stats.proofs.count.with_frame.Goals as goal

pub returns : goal.returns
returns c = search (rules, spelled_lengths) fits 30
