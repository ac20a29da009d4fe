-- Bounded, so that a wrong body is refused at once.
use Rattle.std.proofs.Common.{rules}
use Rattle.rule_index.proofs.head.Head.ethertype.Goals as goal

pub returns : goal.returns
returns c = search rules fits 30
