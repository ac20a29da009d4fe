-- A type of five bits that none of the eight has is an action of its own.
use Rattle.omci_msg.proofs.Codes.{other_code}
use Rattle.omci_msg.proofs.action.Action.of.Goals as goal

pub returns-in-0-to-31-clause-value : goal.returns-in-0-to-31-clause-value
returns-in-0-to-31-clause-value c = other_code c.args.code _
