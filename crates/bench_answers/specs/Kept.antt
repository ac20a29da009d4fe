-- What is kept of the events before a place, so that each is looked at once.
use Rattle.std.specs.Prelude.{◌≡◌, ◌<◌, ◌≤◌, ◌^◌, ℕ, ◌+◌, ◌-◌, Bool, true, false, List, [], ◌∷◌, ◌++◌, Some, Ok, count_by, if◌then◌else◌, length, min, not, slice_get, slice_set, take}
use Rattle.omci_msg.specs.declared.request.Request.{Request}
use Rattle.omci_msg.specs.Message.{request_of}
use Rattle.mib_state.specs.After.{accepted, accepted_from, is_accepted}
use Rattle.mib_upload.specs.Upload.{answered, start}
use Rattle.bench_history.specs.declared.event.Event.{Event}
use Rattle.bench_history.specs.declared.event.Event.TheVariants.{Sent}
use Rattle.bench_reply.specs.Kept.{IsExpected}
use Rattle.bench_reply.specs.Replies.{Wanted}
use Rattle.bench_reply.specs.declared.expected.Expected.{Expected}
use Rattle.bench_answers.specs.Ground.{Ground}
use Rattle.bench_answers.specs.Asked.{asked, base, desk_from, last_sent, repeats_of, requests_of, wanted, wanted_before, wanted_from}
use Rattle.bench_answers.specs.Standing.{is_of_start, is_repeat_of, reached, standings, start_reached}
use Rattle.bench_answers.specs.Windows.{up_to, waited}
use Rattle.bench_answers.specs.declared.answers.Answers as kept
use Rattle.bench_answers.specs.declared.asking.Asking.{Asking}
use Rattle.bench_answers.specs.declared.asking.Due.{Due}
use Rattle.bench_answers.specs.declared.replies.Counts.{Counts}
use Rattle.bench_answers.specs.declared.replies.Replies.{Replies}
use Rattle.bench_answers.specs.declared.standing.Standing.{Standing}
use Rattle.bench_answers.specs.declared.standing.Standing.TheVariants.{Answers, Repeats, OfStart, Absent}

-- ---- messages

-- the replies that requests are to get
pub record AreExpected (modelled : Bool) (requests : List Wanted) (expected : List Expected) : Type 0 where
  pub count : length expected ≡ length requests
  pub each : (k : ℕ) (w : Wanted) (e : Expected) → slice_get requests k ≡ Some w → slice_get expected k ≡ Some e → IsExpected modelled w e

-- what is kept of the request of a number that wants an answer
pub record IsDue (grounds : Ground) (events : List Event) (place k : ℕ) (due : Due) : Type 0 where
  pub answers : Wanted
  pub at : slice_get (wanted grounds (take place events)) k ≡ Some answers
  pub message : List ℕ
  pub sent : slice_get events due.sent ≡ Some (Sent message)
  pub request : request_of message ≡ Ok answers.request
  pub within : due.sent < place
  pub before : length (wanted grounds (take due.sent events)) ≡ k
  pub accepted : due.accepted ≡ length (accepted (grounds.start ++ up_to (k + 1) (asked grounds.repeats (take place events))))
  pub repeats : due.repeats ≡ repeats_of grounds (take place events) k
  pub few : due.repeats < place

-- what is kept of the messages before a place
pub record IsAsking (grounds : Ground) (events : List Event) (place : ℕ) (asking : Asking) : Type 0 where
  pub modelled : asking.modelled ≡ grounds.modelled
  pub repeats : asking.repeats ≡ grounds.repeats
  pub desk : asking.desk ≡ desk_from start (grounds.start ++ asked grounds.repeats (take place events))
  pub requests : asking.requests.items ≡ requests_of grounds (take place events)
  pub last : asking.last ≡ last_sent (take place events)
  pub expected : AreExpected grounds.modelled (wanted grounds (take place events)) asking.expected.items
  pub count : length asking.due.items ≡ length (wanted grounds (take place events))
  pub each : (k : ℕ) (due : Due) → slice_get asking.due.items k ≡ Some due → IsDue grounds events place k due
  pub unsent : (k : ℕ) → length (wanted grounds (take place events)) ≤ k → repeats_of grounds (take place events) k ≡ 0

-- ---- one message more

-- a request that wants an answer adds the reply that it is to get
abbrev pub IsExpectedAdded : Bool → Bool → Wanted → List Expected → List Expected → Type 0
IsExpectedAdded modelled true w old new = (e : Expected) × (new ≡ old ++ e ∷ []) × IsExpected modelled w e
IsExpectedAdded modelled false w old new = new ≡ old

-- a request is carried out that the event at a place sent
pub record IsCarriedOut (place : ℕ) (q : Request) (old new : Asking) : Type 0 where
  pub modelled : new.modelled ≡ old.modelled
  pub repeats : new.repeats ≡ old.repeats
  pub last : new.last ≡ old.last
  pub desk : new.desk ≡ (answered old.desk q).1
  pub requests : new.requests.items ≡ (if is_accepted old.desk.mib.entities q then old.requests.items ++ q ∷ [] else old.requests.items)
  pub expected : IsExpectedAdded old.modelled q.wants_answer (record { request = q; reply = (answered old.desk q).0 }) old.expected.items new.expected.items
  pub due : new.due.items ≡ (if q.wants_answer
      then old.due.items ++ record { sent = place; accepted = length new.requests.items; repeats = 0 } ∷ [] else old.due.items)

-- a request with a repeat more, but no more of them than 64 bits count
abbrev pub repeated_once : Due → Due
repeated_once due = record due { repeats = min (due.repeats + 1) (2 ^ 64 - 1) }

-- the last of requests has a repeat more, if it wants an answer
pub record IsRepeatCounted (wants : Bool) (old new : List Due) : Type 0 where
  pub none : wants ≡ false → new ≡ old
  pub empty : old ≡ [] → new ≡ old
  pub last : (due : Due) → wants ≡ true → slice_get old (length old - 1) ≡ Some due → new ≡ slice_set old (length old - 1) (repeated_once due)

-- requests are carried out before the first event
pub record IsBegun (asked : List Request) (old new : Asking) (told : List Expected) : Type 0 where
  pub modelled : new.modelled ≡ old.modelled
  pub repeats : new.repeats ≡ old.repeats
  pub last : new.last ≡ old.last
  pub due : new.due ≡ old.due
  pub expected : new.expected ≡ old.expected
  pub desk : new.desk ≡ desk_from old.desk asked
  pub requests : new.requests.items ≡ old.requests.items ++ accepted_from old.desk.mib.entities asked
  pub replies : AreExpected old.modelled (wanted_from old.desk asked) told

-- ---- replies

-- one more, but no more than 64 bits count
abbrev pub one_more : ℕ → ℕ
one_more n = min (n + 1) (2 ^ 64 - 1)

-- what replies have answered with one more of them
abbrev pub counted_with : Counts → Standing → Counts
counted_with counts (Answers k) = record counts { next = one_more k; repeated = 0; compared = one_more counts.compared }
counted_with counts (Repeats k) = record counts { repeated = one_more counts.repeated; compared = one_more counts.compared }
counted_with counts (OfStart j) = record counts { start_next = one_more j }
counted_with counts Absent = record counts { compared = one_more counts.compared }

-- a reply behind others goes on from them: it answers a request that waits, a repeat of the last, or none of these
abbrev pub IsNextOf : List Standing → Standing → Type 0
IsNextOf seen (Answers k) = (reached seen ≤ k) × (k < 2 ^ 63)
IsNextOf seen (Repeats k) = k + 1 ≡ reached seen
IsNextOf seen (OfStart j) = (start_reached seen ≤ j) × (j < 2 ^ 63)
IsNextOf seen Absent = Unit {0}

-- what is kept of replies, by what they stand for
pub record AreReplies (seen : List Standing) (replies : Replies) : Type 0 where
  pub next : replies.counts.next ≡ reached seen
  pub repeated : replies.counts.repeated ≡ count_by (is_repeat_of (reached seen - 1)) seen
  pub start_next : replies.counts.start_next ≡ start_reached seen
  pub compared : replies.counts.compared ≡ count_by (λ standing. not (is_of_start standing)) seen
  pub count : length replies.reached.items ≡ length seen
  pub each : (n reach : ℕ) → slice_get replies.reached.items n ≡ Some reach → reach ≡ reached (take (n + 1) seen)

-- ---- all

-- what is kept of the events before a place, of which each reply is right or excused
pub record IsAnswersOf (grounds : Ground) (events : List Event) (place : ℕ) (answers : kept.Answers) : Type 0 where
  pub asking : IsAsking grounds events place answers.asking
  pub start : AreExpected grounds.modelled (wanted_before grounds) answers.start.items
  pub base : answers.base ≡ base grounds
  pub replies : AreReplies (standings grounds (take place events)) answers.replies
  pub answered : reached (standings grounds (take place events)) ≤ length (wanted grounds (take place events))
  pub awaited : answers.waited ≡ waited grounds (take place events)
  pub seen : waited grounds (take place events) ≤ reached (standings grounds (take place events))
