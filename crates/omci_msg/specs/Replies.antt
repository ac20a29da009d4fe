-- The reply to a request.
use Rattle.std.specs.Prelude.{ℕ, List, Option, Some, None, if◌then◌else◌}
use Rattle.omci_msg.specs.declared.request.Request.{Request}
use Rattle.omci_msg.specs.declared.reply.Reply.{Reply}

-- the reply to a request, with given contents: its other fields are the request's
abbrev pub reply_to : Request → List ℕ → Reply
reply_to q contents = record { tci = q.tci; action = q.action; class = q.class; instance = q.instance; contents = contents }

-- a reply, if the request wants one: its bit AR is set
abbrev pub wanted_reply : Request → Reply → Option Reply
wanted_reply q reply = if q.wants_answer then Some reply else None
