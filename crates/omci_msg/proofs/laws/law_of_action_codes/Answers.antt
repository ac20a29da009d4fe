-- The three parts are lemmas.
use Rattle.omci_msg.proofs.Codes.{code_of-action_of, action_of-code_of, none_above}
use Rattle.omci_msg.proofs.laws.law_of_action_codes.Goals as goal

pub returns : goal.returns
returns c = record { code_of-action_of = code_of-action_of; action_of-code_of = action_of-code_of; none_above = none_above }
