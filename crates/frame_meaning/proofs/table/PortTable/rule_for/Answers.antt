-- Bounded, so that a wrong body is refused at once.
use Rattle.frame_meaning.specs.Meaning.{entry_for}
use Rattle.std.proofs.Common.{rules}
use Rattle.frame_meaning.proofs.table.PortTable.rule_for.Goals as goal

pub returns : goal.returns
unfolding entry_for
returns c = search rules fits 30
