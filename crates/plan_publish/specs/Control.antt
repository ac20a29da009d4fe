-- What a control shows: the state of its desk, and the accepted requests.
use Rattle.std.specs.Prelude.{ℕ, Bool, List, [], ◌∷◌, ◌++◌, Option, option_map, if◌then◌else◌}
use Rattle.omci_msg.specs.declared.Request.{Request}
use Rattle.omci_msg.specs.declared.Reply.{Reply}
use Rattle.omci_msg.specs.Message.{reply_spelling}
use Rattle.omci_msg.specs.Replies.{wanted_reply}
use Rattle.mib_state.specs.After.{is_accepted}
use Rattle.mib_upload.specs.Upload.{DeskState, answered}
use Rattle.plan_publish.specs.History.{Home}

-- the state of its desk, the requests that are published, those that are accepted and not yet published, and which history it is
pub record Progress : Type 0 where
  pub desk : DeskState
  pub published : List Request
  pub pending : List Request
  pub home : Home

-- the accepted requests
abbrev pub accepted_of : Progress → List Request
accepted_of p = p.published ++ p.pending

-- the bytes of the answer to a request, where one is wanted
abbrev pub answer_to : Request → Reply → Option (List ℕ)
answer_to q reply = option_map reply_spelling (wanted_reply q reply)

-- whether a request is accepted now
abbrev pub takes : Progress → Request → Bool
takes p q = is_accepted p.desk.mib.entities q

-- what a request leaves: an accepted one joins the list
abbrev pub carried_out : Progress → Request → Progress
carried_out p q = record p {
  desk = (answered p.desk q).1;
  pending = if takes p q then p.pending ++ q ∷ [] else p.pending;
}
