-- What each reply of a history stands for.
use Rattle.std.specs.Prelude.{ℕ, zero, suc, ◌+◌, ◌-◌, ◌==◌, ◌&&◌, ◌||◌, Bool, true, false, not, nat_lt, if◌then◌else◌, List, [], ◌∷◌, ◌++◌, Option, Some, None, count_by, drop, is_some, length, map, max, slice_get, take}
use Rattle.std.specs.List.{list_any, position_from}
use Rattle.bench_history.specs.declared.event.Event.{Event}
use Rattle.bench_history.specs.declared.event.Event.TheVariants.{Replied, Excused}
use Rattle.bench_reply.specs.Replies.{Wanted, has_head, is_reply}
use Rattle.bench_answers.specs.Ground.{Ground}
use Rattle.bench_answers.specs.declared.standing.Standing.{Standing}
use Rattle.bench_answers.specs.declared.standing.Standing.TheVariants.{Answers, Repeats, OfStart, Absent}
use Rattle.bench_answers.specs.Asked.{last_sent, repeats_of, wanted, wanted_before}

-- ---- what replies have answered

-- the greatest of numbers, 0 of none
abbrev pub greatest : List ℕ → ℕ
greatest [] = 0
greatest (n ∷ rest) = max n (greatest rest)

-- how many requests of the events are answered or left out with a reply
abbrev pub reach : Standing → ℕ
reach (Answers k) = k + 1
reach (Repeats k) = k + 1
reach (OfStart j) = 0
reach Absent = 0

-- the same with several; the next of these requests waits for its reply
abbrev pub reached : List Standing → ℕ
reached replies = greatest (map reach replies)

-- the same with the first so many of the replies, or with all
abbrev pub reached_by : Option ℕ → List Standing → ℕ
reached_by None replies = reached replies
reached_by (Some n) replies = reached (take n replies)

-- the same of the requests before the first event
abbrev pub start_reach : Standing → ℕ
start_reach (Answers k) = 0
start_reach (Repeats k) = 0
start_reach (OfStart j) = j + 1
start_reach Absent = 0

abbrev pub start_reached : List Standing → ℕ
start_reached replies = greatest (map start_reach replies)

-- whether a reply answered a repeat of a request
abbrev pub is_repeat_of : ℕ → Standing → Bool
is_repeat_of k (Answers n) = false
is_repeat_of k (Repeats n) = n == k
is_repeat_of k (OfStart j) = false
is_repeat_of k Absent = false

-- whether a reply answered a request before the first event
abbrev pub is_of_start : Standing → Bool
is_of_start (Answers k) = false
is_of_start (Repeats k) = false
is_of_start (OfStart j) = true
is_of_start Absent = false

-- the request that was answered last, where so many are answered or left out
abbrev pub answered_last : ℕ → List Wanted → Option Wanted
answered_last zero requests = None
answered_last (suc k) requests = slice_get requests k

-- ---- a reply

-- whether a reply behind others answers a repeat of the request that was answered last: it is right for that request, more repeats of
-- that stand above than such replies, and no request that waits has its identifier
abbrev pub answers_repeat : Ground → List Event → List Standing → List ℕ → Option Wanted → Bool
answers_repeat grounds before replies bytes None = false
answers_repeat grounds before replies bytes (Some w) =
    let next = reached replies in
    nat_lt (count_by (is_repeat_of (next - 1)) replies) (repeats_of grounds before (next - 1))
    && is_reply grounds.modelled w bytes
    && not (list_any (λ other. other.reply.tci == w.reply.tci) (drop next (wanted grounds before)))

-- the number of that request, if a reply does
abbrev pub repeated_number : Ground → List Event → List Standing → List ℕ → Option ℕ
repeated_number grounds before replies bytes =
    if answers_repeat grounds before replies bytes (answered_last (reached replies) (wanted grounds before)) then Some (reached replies - 1) else None

-- the first request before all events, behind that of the reply before, for which a reply is right, if no message was sent
abbrev pub answers_start : Ground → List Event → List Standing → List ℕ → Option ℕ
answers_start grounds before replies bytes =
    let from = start_reached replies in
    if is_some (last_sent before) then None
    else position_from (λ w. is_reply grounds.modelled w bytes) from (drop from (wanted_before grounds))

-- what it stands for by these two: otherwise it answers the next request
abbrev pub standing_by : Option ℕ → Option ℕ → ℕ → Standing
standing_by (Some k) of_start next = Repeats k
standing_by None (Some j) next = OfStart j
standing_by None None next = Answers next

abbrev pub standing_of : Ground → List Event → List Standing → List ℕ → Standing
standing_of grounds before replies bytes =
    standing_by (repeated_number grounds before replies bytes) (answers_start grounds before replies bytes) (reached replies)

-- ---- a reply that is excused

-- whether a reply has the head of a request that was answered or left out, or none waits
abbrev pub is_absent : Ground → List Event → List Standing → List ℕ → Bool
is_absent grounds before replies bytes =
    let next = reached replies in
    list_any (λ w. has_head w.reply bytes) (wanted_before grounds ++ take next (wanted grounds before))
    || not (nat_lt next (length (wanted grounds before)))

-- the answer to the first request that waits and has its head; else it isn't there, or it is the next one's
abbrev pub excused_as : Ground → List Event → List Standing → List ℕ → Option ℕ → Standing
excused_as grounds before replies bytes (Some k) = Answers k
excused_as grounds before replies bytes None = if is_absent grounds before replies bytes then Absent else Answers (reached replies)

abbrev pub excused_of : Ground → List Event → List Standing → List ℕ → Standing
excused_of grounds before replies bytes =
    let next = reached replies in
    excused_as grounds before replies bytes (position_from (λ w. has_head w.reply bytes) next (drop next (wanted grounds before)))

-- ---- all

-- what an event stands for, behind others and their replies, if it is a reply
abbrev pub stands : Ground → List Event → List Standing → Event → List Standing
stands grounds before replies (Replied bytes) = standing_of grounds before replies bytes ∷ []
stands grounds before replies (Excused bytes) = excused_of grounds before replies bytes ∷ []
stands grounds before replies event = []

abbrev pub standings_behind : Ground → List Event → List Standing → List Event → List Standing
standings_behind grounds before replies [] = replies
standings_behind grounds before replies (event ∷ rest) =
    standings_behind grounds (before ++ event ∷ []) (replies ++ stands grounds before replies event) rest

-- what each reply stands for, in order
abbrev pub standings : Ground → List Event → List Standing
standings grounds events = standings_behind grounds [] [] events

-- how many replies were compared: those to requests before the first event are no evidence
abbrev pub compared : Ground → List Event → ℕ
compared grounds events = count_by (λ standing. not (is_of_start standing)) (standings grounds events)
