-- What a unit was asked, what the model replies, and what its entities are after so many accepted requests.
use Rattle.std.specs.Prelude.{ℕ, ◌+◌, ◌==◌, ◌&&◌, Bool, false, List, [], ◌∷◌, ◌++◌, Option, Some, None, if◌then◌else◌, count_by, length, take}
use Rattle.std.specs.List.{cons_option}
use Rattle.std.specs.Result.{result_ok}
use Rattle.std.specs.Str.{bytes_eq}
use Rattle.omci_msg.specs.declared.request.Request.{Request}
use Rattle.omci_msg.specs.Message.{request_of}
use Rattle.mib_state.specs.Entities.{Entities}
use Rattle.mib_state.specs.After.{accepted, after}
use Rattle.mib_upload.specs.Upload.{DeskState, answered, start}
use Rattle.bench_history.specs.declared.event.Event.{Event}
use Rattle.bench_history.specs.declared.event.Event.TheVariants.{Sent}
use Rattle.bench_reply.specs.Replies.{Wanted}
use Rattle.bench_answers.specs.Ground.{Ground, collected}

-- ---- requests

-- the last message, by its bytes, behind one more event
abbrev pub last_with : Option (List ℕ) → Event → Option (List ℕ)
last_with last (Sent message) = Some message
last_with last event = last

-- the same behind several
abbrev pub last_from : Option (List ℕ) → List Event → Option (List ℕ)
last_from last [] = last
last_from last (event ∷ rest) = last_from (last_with last event) rest

-- the last message that events sent
abbrev pub last_sent : List Event → Option (List ℕ)
last_sent events = last_from None events

-- whether a message is another once more
abbrev pub is_again : Option (List ℕ) → List ℕ → Bool
is_again None message = false
is_again (Some last) message = bytes_eq message last

-- whether a message behind events is a repeat, where repeats are looked for: the message before it had the same bytes
abbrev pub is_repeat : Bool → List Event → List ℕ → Bool
is_repeat repeats before message = repeats && is_again (last_sent before) message

-- the request of a message; one with a fault asks nothing
abbrev pub request_in : List ℕ → Option Request
request_in message = result_ok (request_of message)

-- the request that an event behind others asks to be carried out; a repeat isn't
abbrev pub asked_by : Bool → List Event → Event → List Request
asked_by repeats before (Sent message) = if is_repeat repeats before message then [] else cons_option (request_in message) []
asked_by repeats before event = []

-- the requests that are carried out, in order
abbrev pub asked : Bool → List Event → List Request
asked repeats events = collected (asked_by repeats) [] events

-- ---- the model's replies

-- the desk after each request in turn
abbrev pub desk_from : DeskState → List Request → DeskState
desk_from s [] = s
desk_from s (q ∷ rest) = desk_from (answered s q).1 rest

-- of requests from a state on those that want an answer, each with the model's reply
abbrev pub wanted_from : DeskState → List Request → List Wanted
wanted_from s [] = []
wanted_from s (q ∷ rest) =
    if q.wants_answer then record { request = q; reply = (answered s q).0 } ∷ wanted_from (answered s q).1 rest
    else wanted_from (answered s q).1 rest

-- the requests before the first event that want an answer, in order
abbrev pub wanted_before : Ground → List Wanted
wanted_before grounds = wanted_from start grounds.start

-- the requests of events that want an answer, in order
abbrev pub wanted : Ground → List Event → List Wanted
wanted grounds events = wanted_from (desk_from start grounds.start) (asked grounds.repeats events)

-- ---- repeats of requests that want an answer

-- whether a message is a request that wants an answer
abbrev pub wants_answer : Option Request → Bool
wants_answer None = false
wants_answer (Some q) = q.wants_answer

-- which of the requests that want an answer an event behind others repeats, by its number from 1: the last
abbrev pub repeated_by : Ground → List Event → Event → List ℕ
repeated_by grounds before (Sent message) =
    if is_repeat grounds.repeats before message && wants_answer (request_in message) then length (wanted grounds before) ∷ [] else []
repeated_by grounds before event = []

-- how many repeats of a request, by its number from 0, stand among events
abbrev pub repeats_of : Ground → List Event → ℕ → ℕ
repeats_of grounds events k = count_by (λ n. n == k + 1) (collected (repeated_by grounds) [] events)

-- ---- versions

-- the accepted requests, in order: first those before the first event
abbrev pub requests_of : Ground → List Event → List Request
requests_of grounds events = accepted (grounds.start ++ asked grounds.repeats events)

-- how many of them stand before the first event
abbrev pub base : Ground → ℕ
base grounds = length (accepted grounds.start)

-- a version: the entities after so many accepted requests
abbrev pub version : Ground → List Event → ℕ → Entities
version grounds events v = after (take v (requests_of grounds events))
