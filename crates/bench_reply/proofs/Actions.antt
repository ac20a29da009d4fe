-- Actions by their message types.
use Rattle.std.proofs.Common.{◌≡◌, ap, sym, ◌∙◌}
use Rattle.std.proofs.lemmas.Option.{same_Some}
use Rattle.omci_msg.specs.Message.{action_of, code_of}
use Rattle.omci_msg.specs.declared.action.Action.{Action}
use Rattle.omci_msg.proofs.Codes.{action_of-code_of}

-- an action is told by its message type
pub same_code : (a b : Action) → code_of a ≡ code_of b → a ≡ b
same_code a b is = same_Some a b (sym (action_of-code_of a) ∙ ap action_of is ∙ action_of-code_of b)
