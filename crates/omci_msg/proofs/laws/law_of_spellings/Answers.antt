-- Both parts are lemmas.
use Rattle.omci_msg.proofs.Spellings.{request_read, reply_read}
use Rattle.omci_msg.proofs.laws.law_of_spellings.Goals as goal

pub returns : goal.returns
returns c = record { request = request_read; reply = reply_read }
