-- Bounded, so that a wrong body is refused at once.
use Rattle.std.proofs.Common.{rules}
use Rattle.omci_msg.proofs.fault.MsgFault.code.Goals as goal

pub returns-in-NotRequest : goal.returns-in-NotRequest
returns-in-NotRequest c = search rules fits 30
