-- Bounded, so that a wrong body is refused at once.
use Rattle.std.proofs.Common.{rules}
use Rattle.omci_msg.specs.Message.{request_spelling}
use Rattle.omci_msg.proofs.writing.write_request.Goals as goal

pub returns : goal.returns
unfolding request_spelling
returns c = search rules fits 30
