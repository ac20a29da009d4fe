-- From which version to which a frame may leave.
use Rattle.std.specs.Prelude.{ℕ, zero, suc, List, [], ◌∷◌, ◌++◌, if◌then◌else◌, length}
use Rattle.omci_msg.specs.declared.request.Request.{Request}
use Rattle.mib_state.specs.After.{accepted}
use Rattle.bench_history.specs.declared.event.Event.{Event}
use Rattle.bench_history.specs.declared.event.Event.TheVariants.{Waited}
use Rattle.bench_answers.specs.Ground.{Ground, collected}
use Rattle.bench_answers.specs.Asked.{asked, requests_of}
use Rattle.bench_answers.specs.Standing.{greatest, reached_by, standings}

-- for how many requests that want an answer an event behind others waits: those that are answered or left out with so many replies, or
-- with those so far
abbrev pub waits_for : Ground → List Event → Event → List ℕ
waits_for grounds before (Waited replies) = reached_by replies (standings grounds before) ∷ []
waits_for grounds before event = []

-- the most that any of the events waits for
abbrev pub waited : Ground → List Event → ℕ
waited grounds events = greatest (collected (waits_for grounds) [] events)

-- the requests up to and with so many that want an answer; all where there are no more
abbrev pub up_to : ℕ → List Request → List Request
up_to zero requests = []
up_to (suc n) [] = []
up_to (suc n) (q ∷ rest) = q ∷ (if q.wants_answer then up_to n rest else up_to (suc n) rest)

-- at least: the accepted requests that are in force for each frame that is sent behind events
abbrev pub least_behind : Ground → List Event → ℕ
least_behind grounds events = length (accepted (grounds.start ++ up_to (waited grounds events) (asked grounds.repeats events)))

-- at most: the accepted requests that may be in force for a frame that is seen to end behind events
abbrev pub most_behind : Ground → List Event → ℕ
most_behind grounds events = length (requests_of grounds events)
