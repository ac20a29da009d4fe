-- Worked examples, computed.
use Rattle.std.proofs.Common.{◌≡◌, ◌++◌, ℕ, List, [], ◌∷◌, true, false, replicate, Some, None, refl}
use Rattle.omci_msg.specs.Message.{action_of, reply_of, request_fields, request_of}
use Rattle.bench_history.specs.declared.event.Event.{Event}
use Rattle.bench_history.specs.declared.event.Event.TheVariants.{Sent, Replied, Excused, Waited}
use Rattle.bench_answers.specs.Ground.{Ground}
use Rattle.bench_answers.specs.Asked.{base}
use Rattle.bench_answers.specs.Plain.{plain}
use Rattle.bench_answers.specs.Standing.{compared, standings}
use Rattle.bench_answers.specs.Windows.{least_behind, most_behind}
use Rattle.bench_answers.specs.declared.standing.Standing.TheVariants.{Answers, Repeats, OfStart, Absent}

-- a MIB reset of an identifier and this message type, in 44 bytes
abbrev reset : ℕ → ℕ → List ℕ
reset tci kind = 0 ∷ tci ∷ kind ∷ 10 ∷ 0 ∷ 2 ∷ 0 ∷ 0 ∷ [] ++ replicate 36 0

-- one that wants an answer, one that wants none, the reply with a result
abbrev asks : ℕ → Event
asks tci = Sent (reset tci 79)

abbrev tells : ℕ → Event
tells tci = Sent (reset tci 15)

abbrev told : ℕ → ℕ → List ℕ
told tci result = 0 ∷ tci ∷ 47 ∷ 10 ∷ 0 ∷ 2 ∷ 0 ∷ 0 ∷ result ∷ [] ++ replicate 35 0

-- a history that begins with a unit as it is, and one whose unit carried these out before
abbrev repeating : Ground
repeating = record { modelled = false; repeats = true; start = [] }

abbrev started : Ground
started = record { modelled = false; repeats = false; start = request_fields (reset 8 79) ∷ request_fields (reset 9 15) ∷ request_fields (reset 9 79) ∷ [] }

-- ---- without settings

-- a request without an answer between two with one; the first is answered
abbrev sent : List Event
sent = asks 1 ∷ tells 2 ∷ asks 3 ∷ Replied (told 1 0) ∷ []

all_accepted : most_behind (plain false) sent ≡ 3
unfolding request_of action_of
all_accepted = refl

-- nothing is in force before a wait, and with one what is answered
nothing_waited_for : least_behind (plain false) sent ≡ 0
unfolding request_of action_of reply_of
nothing_waited_for = refl

first_answered : least_behind (plain false) (sent ++ Waited None ∷ []) ≡ 1
unfolding request_of action_of reply_of
first_answered = refl

second_answered : least_behind (plain false) (sent ++ Replied (told 3 0) ∷ Waited None ∷ Waited (Some 1) ∷ []) ≡ 3
unfolding request_of action_of reply_of
second_answered = refl

-- ---- repeats

-- a repeat isn't carried out, and may be answered once more; another reply is the next request's
twice : standings repeating (asks 1 ∷ Replied (told 1 0) ∷ asks 1 ∷ Replied (told 1 0) ∷ Replied (told 1 0) ∷ [])
    ≡ Answers 0 ∷ Repeats 0 ∷ Answers 1 ∷ []
unfolding request_of action_of reply_of
twice = refl

carried_out_once : most_behind repeating (asks 1 ∷ Replied (told 1 0) ∷ asks 1 ∷ asks 1 ∷ []) ≡ 1
unfolding request_of action_of reply_of
carried_out_once = refl

-- it may stand behind the answer, and stay unanswered
unanswered : standings repeating (asks 1 ∷ asks 1 ∷ Replied (told 1 0) ∷ asks 2 ∷ Replied (told 2 0) ∷ []) ≡ Answers 0 ∷ Answers 1 ∷ []
unfolding request_of action_of reply_of
unanswered = refl

-- one that waits with the identifier takes the reply
taken : standings repeating (asks 1 ∷ asks 1 ∷ Replied (told 1 0) ∷ asks 2 ∷ asks 1 ∷ Replied (told 1 0) ∷ []) ≡ Answers 0 ∷ Answers 1 ∷ []
unfolding request_of action_of reply_of
taken = refl

-- without the setting the second is carried out, and its reply is the second's
not_repeated : standings (plain false) (asks 1 ∷ asks 1 ∷ Replied (told 1 0) ∷ Replied (told 1 0) ∷ []) ≡ Answers 0 ∷ Answers 1 ∷ []
unfolding request_of action_of reply_of
not_repeated = refl

-- ---- requests before the first event

-- replies that are late answer nothing, and those behind a message are the events'
late : standings started (Replied (told 9 0) ∷ asks 1 ∷ Replied (told 9 0) ∷ []) ≡ OfStart 1 ∷ Answers 0 ∷ []
unfolding request_of action_of reply_of
late = refl

late_in_order : standings started (Replied (told 9 0) ∷ Replied (told 8 0) ∷ []) ≡ OfStart 1 ∷ Answers 0 ∷ []
unfolding request_of action_of reply_of
late_in_order = refl

no_evidence : compared started (Replied (told 8 0) ∷ Replied (told 9 0) ∷ asks 1 ∷ Replied (told 1 0) ∷ []) ≡ 1
unfolding request_of action_of reply_of
no_evidence = refl

-- they belong to version 0
three_before : base started ≡ 3
unfolding action_of
three_before = refl

least_of_start : least_behind started (Replied (told 9 0) ∷ Waited None ∷ []) ≡ 3
unfolding request_of action_of reply_of
least_of_start = refl

one_more : least_behind started (Replied (told 9 0) ∷ asks 1 ∷ asks 2 ∷ Replied (told 1 0) ∷ Waited None ∷ []) ≡ 4
unfolding request_of action_of reply_of
one_more = refl

-- ---- excused replies

-- a reply that answers a later request leaves out those before it, and their late reply isn't there
left_out : standings (plain false) (asks 1 ∷ asks 2 ∷ asks 3 ∷ Replied (told 1 0) ∷ Excused (told 3 0) ∷ Excused (told 2 0) ∷ asks 4 ∷ Replied (told 4 0) ∷ [])
    ≡ Answers 0 ∷ Answers 2 ∷ Absent ∷ Answers 3 ∷ []
unfolding request_of action_of reply_of
left_out = refl

-- one with a wrong result answers its request, and one that can't be read the next, if one waits
wrong : standings (plain false) (asks 1 ∷ Excused (told 1 7) ∷ asks 2 ∷ Excused (0 ∷ []) ∷ Excused (0 ∷ []) ∷ []) ≡ Answers 0 ∷ Answers 1 ∷ Absent ∷ []
unfolding request_of action_of reply_of
wrong = refl

-- a wait for a reply that isn't there waits for what those before it answer
waits_before : least_behind (plain false) (asks 1 ∷ asks 2 ∷ Replied (told 1 0) ∷ Excused (told 1 0) ∷ Waited (Some 2) ∷ []) ≡ 1
unfolding request_of action_of reply_of
waits_before = refl
