-- Which replies of a history are right, and what is known of those that aren't.
use Rattle.std.specs.Prelude.{◌≡◌, ◌<◌, ℕ, ◌+◌, List, Option, Some, None, Ok, drop, length, slice_get, take}
use Rattle.std.specs.List.{position_from}
use Rattle.omci_msg.specs.Message.{request_of}
use Rattle.bench_history.specs.declared.event.Event.{Event}
use Rattle.bench_history.specs.declared.event.Event.TheVariants.{Sent}
use Rattle.bench_reply.specs.Replies.{IsReplyTo, Wanted, has_head}
use Rattle.bench_answers.specs.Ground.{Ground}
use Rattle.bench_answers.specs.Asked.{wanted}
use Rattle.bench_answers.specs.Standing.{reached, standing_of, standings}
use Rattle.bench_answers.specs.declared.awaited.Awaited.{Awaited}
use Rattle.bench_answers.specs.declared.awaited.Later.{Later}
use Rattle.bench_answers.specs.declared.standing.Standing.{Standing}
use Rattle.bench_answers.specs.declared.standing.Standing.TheVariants.{Answers, Repeats, OfStart, Absent}

-- bytes are a right reply to the request of a number: there is one above
pub record IsRightTo (grounds : Ground) (before : List Event) (k : ℕ) (bytes : List ℕ) : Type 0 where
  pub answers : Wanted
  pub at : slice_get (wanted grounds before) k ≡ Some answers
  pub right : IsReplyTo grounds.modelled answers bytes

-- bytes that stand for something are right: as the answer to a request they are a right reply to it
abbrev pub IsRightAs : Ground → List Event → List ℕ → Standing → Type 0
IsRightAs grounds before bytes (Answers k) = IsRightTo grounds before k bytes
IsRightAs grounds before bytes (Repeats k) = Unit {0}
IsRightAs grounds before bytes (OfStart j) = Unit {0}
IsRightAs grounds before bytes Absent = Unit {0}

-- bytes that come behind events are a right reply
abbrev pub IsRight : Ground → List Event → List ℕ → Type 0
IsRight grounds before bytes = IsRightAs grounds before bytes (standing_of grounds before (standings grounds before) bytes)

-- the number of the request that the next reply answers, if one waits
abbrev pub next_of : Ground → List Event → ℕ
next_of grounds events = reached (standings grounds events)

-- the first request that waits and has the head of a reply, by its number
abbrev pub meant_by : Ground → List Event → List ℕ → Option ℕ
meant_by grounds events bytes = position_from (λ w. has_head w.reply bytes) (next_of grounds events) (drop (next_of grounds events) (wanted grounds events))

-- the event at a place sent the request of a number, which wants an answer
pub record IsSentAt (grounds : Ground) (events : List Event) (k place : ℕ) (w : Wanted) : Type 0 where
  pub at : slice_get (wanted grounds events) k ≡ Some w
  pub message : List ℕ
  pub sent : slice_get events place ≡ Some (Sent message)
  pub request : request_of message ≡ Ok w.request
  pub before : length (wanted grounds (take place events)) ≡ k

-- the request that the next reply answers: where it was sent, and what the model replies
pub record IsAwaited (grounds : Ground) (events : List Event) (awaited : Awaited) : Type 0 where
  pub answers : Wanted
  pub sent : IsSentAt grounds events (next_of grounds events) awaited.sent answers
  pub reply : awaited.reply ≡ answers.reply

-- the same, or that no request waits for a reply
abbrev pub IsNext : Ground → List Event → Option Awaited → Type 0
IsNext grounds events (Some awaited) = IsAwaited grounds events awaited
IsNext grounds events None = slice_get (wanted grounds events) (next_of grounds events) ≡ None

-- a later request has the head of a reply: where it was sent, and how many requests before it wait
pub record IsLater (grounds : Ground) (events : List Event) (bytes : List ℕ) (later : Later) : Type 0 where
  pub answers : Wanted
  pub meant : meant_by grounds events bytes ≡ Some (next_of grounds events + later.skipped)
  pub behind : 0 < later.skipped
  pub sent : IsSentAt grounds events (next_of grounds events + later.skipped) later.sent answers

-- the same, or that no request that waits has the head, or the next one
abbrev pub IsMeant : Ground → List Event → List ℕ → Option Later → Type 0
IsMeant grounds events bytes (Some later) = IsLater grounds events bytes later
IsMeant grounds events bytes None = (k : ℕ) → meant_by grounds events bytes ≡ Some k → k ≡ next_of grounds events
