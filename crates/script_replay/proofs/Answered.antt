-- The line of a script's message is that of what the unit answers.
use Rattle.std.proofs.Common.{◌≡◌, ◌≤◌, ℕ, List, Option, Result, Ok, Err, length, refl}
use Rattle.omci_msg.specs.Message.{request_of}
use Rattle.omci_msg.specs.declared.fault.MsgFault.{MsgFault}
use Rattle.omci_msg.specs.declared.request.Request.{Request}
use Rattle.omci_msg.specs.declared.reply.Reply.{Reply}
use Rattle.mib_upload.specs.Upload.{DeskState}
use Rattle.onu_unit.specs.Unit.{asked_answered, message_answered}
use Rattle.script_replay.specs.Answers.{message_answer}
use Rattle.script_replay.proofs.Messages.{request_long}

-- what isn't a fault was asked
asked : (s : DeskState) (read : Result Request MsgFault) (reply : Option Reply) → (asked_answered s read).0 ≡ Ok reply → (q : Request) × (read ≡ Ok q)
asked s (Ok q) reply is = (q, refl)
asked s (Err fault) reply is = absurd (let e : ◌≡◌ {A = Result (Option Reply) MsgFault} (Err fault) (Ok reply) = is in cc)

pub answered_long : (s : DeskState) (bytes : List ℕ) (reply : Option Reply) → (message_answered s bytes).0 ≡ Ok reply → 44 ≤ length bytes
answered_long s bytes reply is =
    let found = asked s (request_of bytes) reply is in
    request_long bytes found.0 found.1

pub left_same : (s : DeskState) (read : Result Request MsgFault) → (asked_answered s read).1 ≡ (message_answer s read).1
left_same s (Ok q) = refl
left_same s (Err fault) = refl
