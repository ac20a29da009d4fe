-- Bounded, so that a wrong body is refused at once.
use Rattle.std.proofs.Common.{rules}
use Rattle.frame_stats.proofs.book.StatBook.total.Goals as goal

pub returns-clause-value : goal.returns-clause-value
returns-clause-value c = search rules fits 30

pub returns-clause-sum : goal.returns-clause-sum
returns-clause-sum c = search rules fits 30
