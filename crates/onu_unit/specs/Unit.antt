-- What a unit answers a message, and the state that the message leaves.
use Rattle.std.specs.Prelude.{ℕ, List, Option, Result, Ok, Err}
use Rattle.omci_msg.specs.Message.{request_of}
use Rattle.omci_msg.specs.Replies.{wanted_reply}
use Rattle.omci_msg.specs.declared.fault.MsgFault.{MsgFault}
use Rattle.omci_msg.specs.declared.request.Request.{Request}
use Rattle.omci_msg.specs.declared.reply.Reply.{Reply}
use Rattle.mib_upload.specs.Upload.{DeskState, answered}

-- the answer to what a message asks, if anything, and the state that it leaves: one with a fault leaves it
abbrev pub asked_answered : DeskState → Result Request MsgFault → Result (Option Reply) MsgFault × DeskState
asked_answered s (Ok request) = let done = answered s request in (Ok (wanted_reply request done.0), done.1)
asked_answered s (Err fault) = (Err fault, s)

-- the answer to the bytes of a message, and the state that it leaves
abbrev pub message_answered : DeskState → List ℕ → Result (Option Reply) MsgFault × DeskState
message_answered s bytes = asked_answered s (request_of bytes)
