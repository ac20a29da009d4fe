-- Bounded, so that a wrong body is refused at once.
use Rattle.std.proofs.Common.{rules}
use Rattle.rule_index.proofs.row.Row.inner.Goals as goal

pub returns-in_default : goal.returns-in_default
returns-in_default c = search rules fits 30
