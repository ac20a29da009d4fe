-- Bounded, so that a wrong body is refused at once.
use Rattle.std.proofs.Common.{rules}
use Rattle.capture.proofs.header.order_of.Goals as goal

pub returns-in-3569595041 : goal.returns-in-3569595041
returns-in-3569595041 c = search rules fits 30
