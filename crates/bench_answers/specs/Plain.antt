-- The same without repeats, without requests before the first event and without excused replies: the k-th reply answers the k-th request
-- that wants an answer.
use Rattle.std.specs.Prelude.{◌≡◌, ℕ, Bool, false, List, [], ◌∷◌, ◌++◌, Option, None, Some, length, max, slice_get}
use Rattle.std.specs.List.{filter_map}
use Rattle.omci_msg.specs.declared.request.Request.{Request}
use Rattle.mib_state.specs.After.{accepted}
use Rattle.mib_upload.specs.Upload.{start}
use Rattle.bench_history.specs.History.{replies_in}
use Rattle.bench_history.specs.declared.event.Event.{Event}
use Rattle.bench_history.specs.declared.event.Event.TheVariants.{Sent, Waited}
use Rattle.bench_reply.specs.Replies.{IsReplyTo, Wanted}
use Rattle.bench_answers.specs.Ground.{Ground}
use Rattle.bench_answers.specs.Asked.{request_in, wanted_from}
use Rattle.bench_answers.specs.Windows.{up_to}

-- every message is carried out, and nothing was before
abbrev pub plain : Bool → Ground
plain modelled = record { modelled = modelled; repeats = false; start = [] }

-- the request of an event
abbrev pub plain_request : Event → Option Request
plain_request (Sent message) = request_in message
plain_request _ = None

-- the requests that were sent, in order
abbrev pub plain_asked : List Event → List Request
plain_asked events = filter_map plain_request events

-- those that want an answer
abbrev pub plain_wanted : List Event → List Wanted
plain_wanted events = wanted_from start (plain_asked events)

-- bytes that come behind events are a right reply: a request above wants one, and it is the next to be answered
pub record IsPlainRight (modelled : Bool) (before : List Event) (bytes : List ℕ) : Type 0 where
  pub answers : Wanted
  pub next : slice_get (plain_wanted before) (replies_in before) ≡ Some answers
  pub right : IsReplyTo modelled answers bytes

-- up to which reply an event behind others waits, by its number from 1; 0 is none
abbrev pub plain_waits_for : List Event → Event → ℕ
plain_waits_for before (Waited None) = replies_in before
plain_waits_for before (Waited (Some n)) = n
plain_waits_for before _ = 0

-- the last reply that any of the events behind others waits for
abbrev pub plain_waited_behind : List Event → List Event → ℕ
plain_waited_behind before [] = 0
plain_waited_behind before (event ∷ rest) = max (plain_waits_for before event) (plain_waited_behind (before ++ event ∷ []) rest)

abbrev pub plain_waited : List Event → ℕ
plain_waited events = plain_waited_behind [] events

abbrev pub plain_least : List Event → ℕ
plain_least events = length (accepted (up_to (plain_waited events) (plain_asked events)))

abbrev pub plain_most : List Event → ℕ
plain_most events = length (accepted (plain_asked events))
