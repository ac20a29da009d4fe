-- What a message to the unit in a cell is answered: a number, what is in the room for the reply then, and what stands in the cell. The
-- cell is empty, or it holds a unit in some state.
use Rattle.std.specs.Prelude.{ℕ, ℤ, pos, neg_ℤ, List, Option, Some, None, option_map, Result, Ok, Err}
use Rattle.omci_msg.specs.Fault.{number_of_fault}
use Rattle.omci_msg.specs.Message.{reply_spelling}
use Rattle.omci_msg.specs.declared.fault.MsgFault.{MsgFault}
use Rattle.omci_msg.specs.declared.reply.Reply.{Reply}
use Rattle.mib_upload.specs.Upload.{DeskState}
use Rattle.onu_unit.specs.Unit.{message_answered}
use Rattle.onu_cell.specs.Numbers.{closed}

-- a reply, no answer, or a fault; none of them from an empty cell
abbrev pub Answer : Type 0
Answer = Option (Result (Option Reply) MsgFault)

abbrev pub answer_in : Option DeskState → List ℕ → Answer
answer_in held bytes = option_map (λ s. (message_answered s bytes).0) held

-- what stands in the cell then
abbrev pub left_in : Option DeskState → List ℕ → Option DeskState
left_in held bytes = option_map (λ s. (message_answered s bytes).1) held

-- a fault is its number, negative
abbrev pub answer_number : Answer → ℤ
answer_number None = closed
answer_number (Some (Ok (Some reply))) = pos 1
answer_number (Some (Ok None)) = pos 0
answer_number (Some (Err fault)) = neg_ℤ (pos (number_of_fault fault))

-- the room: the reply, from its first byte to its last, or what was in it
abbrev pub answer_room : List ℕ → Answer → List ℕ
answer_room room None = room
answer_room room (Some (Ok (Some reply))) = reply_spelling reply
answer_room room (Some (Ok None)) = room
answer_room room (Some (Err fault)) = room
