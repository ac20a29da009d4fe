-- Bounded, so that a wrong body is refused at once.
use Rattle.std.proofs.Common.{rules}
use Rattle.omci_msg.proofs.action.Action.code.Goals as goal

pub returns-in-GetNext-clause-value : goal.returns-in-GetNext-clause-value
returns-in-GetNext-clause-value c = search rules fits 30
