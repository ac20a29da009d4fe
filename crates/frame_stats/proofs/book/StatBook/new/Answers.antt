-- Bounded, so that a wrong body is refused at once.
use Rattle.std.proofs.Common.{rules}
use Rattle.frame_stats.proofs.book.StatBook.new.Goals as goal

pub returns-in_default-clause-lane : goal.returns-in_default-clause-lane
returns-in_default-clause-lane c = search rules fits 30

pub returns-clause-may_have : goal.returns-clause-may_have
returns-clause-may_have c = search rules fits 30

pub returns-clause-lane : goal.returns-clause-lane
returns-clause-lane c = search rules fits 30
