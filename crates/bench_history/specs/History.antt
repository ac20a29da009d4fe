-- The events of a history.
use Rattle.std.specs.Prelude.{◌≡◌, ℕ, ◌+◌, ◌==◌, ◌&&◌, ◌||◌, Bool, true, false, not, if◌then◌else◌, nat_le, nat_lt, List, [], ◌∷◌, ◌++◌, length, Option, Some, None, Result, Ok, Err, count_by}
use Rattle.std.specs.List.{flat_map, list_all, list_any}
use Rattle.std.specs.Option.{option_and_then}
use Rattle.script_lines.specs.Text.{lines_of}
use Rattle.bench_history.specs.Line.{event_of}
use Rattle.bench_history.specs.declared.event.Event.{Event}
use Rattle.bench_history.specs.declared.event.Event.TheVariants.{Replied, Excused, Entered, Left, LeftOneOf, Dropped, Lost, Waited, Ended, Nothing}
use Rattle.bench_history.specs.declared.fault.HistoryFault.{HistoryFault}
use Rattle.bench_history.specs.declared.fault.HistoryFault.TheVariants.{BadLine, NoMemory}

-- whether an event sends a frame
abbrev pub is_frame : Event → Bool
is_frame (Entered port extent frame) = true
is_frame _ = false

-- whether it is a reply, right or not
abbrev pub is_reply : Event → Bool
is_reply (Replied reply) = true
is_reply (Excused reply) = true
is_reply _ = false

-- whether it ends the frame of a number: the frame left, was dropped or was lost
abbrev pub is_end_of : ℕ → Event → Bool
is_end_of n (Left gem extent number frame) = number == n
is_end_of n (Dropped number) = number == n
is_end_of n (Lost number) = number == n
is_end_of n _ = false

-- whether it ends the observation
abbrev pub is_the_end : Event → Bool
is_the_end Ended = true
is_the_end _ = false

-- how many frames were sent; their numbers are those below
abbrev pub frames_in : List Event → ℕ
frames_in events = count_by is_frame events

-- how many replies were seen
abbrev pub replies_in : List Event → ℕ
replies_in events = count_by is_reply events

-- whether the frame of a number has ended
abbrev pub has_ended : ℕ → List Event → Bool
has_ended n events = list_any (is_end_of n) events

-- whether the frame of a number was sent and hasn't ended
abbrev pub is_open : ℕ → List Event → Bool
is_open n events = nat_lt n (frames_in events) && not (has_ended n events)

-- the frames of which an event says that one left
abbrev pub doubt_of : Event → List (List ℕ)
doubt_of (LeftOneOf gem extent told) = told.numbers ∷ []
doubt_of _ = []

-- those of each such event, in order
abbrev pub doubts_in : List Event → List (List ℕ)
doubts_in events = flat_map doubt_of events

-- whether a frame is one of some
abbrev pub is_among : List ℕ → ℕ → Bool
is_among frames n = list_any (λ m. m == n) frames

-- whether frames are all among some
abbrev pub are_among : List ℕ → List ℕ → Bool
are_among frames some = list_all (is_among frames) some

-- whether as many events say of some of these frames alone that one left, as there are frames
abbrev pub have_left : List ℕ → List (List ℕ) → Bool
have_left frames doubts = nat_le (length frames) (count_by (are_among frames) doubts)

-- whether the frame of a number is one of which it can't be seen whether it left
abbrev pub is_doubtful : ℕ → List Event → Bool
is_doubtful n events = list_any (λ frames. is_among frames n) (doubts_in events)

-- whether a frame must have left: those of an event that names it have, as many as they are
abbrev pub is_used_up : ℕ → List Event → Bool
is_used_up n events = list_any (λ frames. is_among frames n && have_left frames (doubts_in events)) (doubts_in events)

-- whether a frame may end: it is open, and not doubtful
abbrev pub may_end : ℕ → List Event → Bool
may_end n events = is_open n events && not (is_doubtful n events)

-- whether a frame may be one that left
abbrev pub may_be_left : List Event → ℕ → Bool
may_be_left events n = is_open n events && not (is_used_up n events)

-- whether one of frames may have left: each may be it, and they are several, or it is doubtful
abbrev pub may_be_one : List ℕ → List Event → Bool
may_be_one frames events =
    list_all (may_be_left events) frames && (nat_lt 1 (length frames) || list_any (λ n. is_doubtful n events) frames)

-- whether the observation has ended
abbrev pub is_ended : List Event → Bool
is_ended events = list_any is_the_end events

-- whether an event fits others, while the observation goes on: only an open frame ends, and no more replies are waited for than were seen
abbrev pub fits : List Event → Event → Bool
fits before (Left gem extent number frame) = may_end number before
fits before (LeftOneOf gem extent told) = may_be_one told.numbers before
fits before (Dropped number) = may_end number before
fits before (Lost number) = may_end number before
fits before (Waited (Some replies)) = nat_le replies (replies_in before)
fits before _ = true

-- whether an event may stand behind others: once the observation has ended, only what says nothing may
abbrev pub may_follow : List Event → Event → Bool
may_follow before Nothing = true
may_follow before event = not (is_ended before) && fits before event

-- whether an event may stand behind others for what was seen: a frame that is known to have ended, or may have left, was open, and no more
-- replies were waited for than were seen. An event that may follow others is sound behind them, and stays so where others are taken back
abbrev pub is_sound : List Event → Event → Bool
is_sound before (Left gem extent number frame) = is_open number before
is_sound before (LeftOneOf gem extent told) = list_all (λ n. is_open n before) told.numbers
is_sound before (Dropped number) = is_open number before
is_sound before (Lost number) = is_open number before
is_sound before (Waited (Some replies)) = nat_le replies (replies_in before)
is_sound before _ = true

-- the event of a line behind others, None where it is bad or may not stand there
abbrev pub next_of : List Event → List ℕ → Option Event
next_of before line = option_and_then (λ event. if may_follow before event then Some event else None) (event_of line)

-- the events so far and those of more lines, in order; or the number, from 1, of the first line that has none
abbrev pub events_from : List Event → List (List ℕ) → Result (List Event) ℕ
events_from before [] = Ok before
events_from before (line ∷ lines) =
    elim (next_of before line) [ Some event ↦ events_from (before ++ event ∷ []) lines | None ↦ Err (length before + 1) ]

-- the events of a text, one for each line; or the number of its first line that has none
abbrev pub history_of : List ℕ → Result (List Event) ℕ
history_of text = events_from [] (lines_of text)

-- why more lines of a text aren't read: the first of them that has no event, or memory is wanting
abbrev pub IsWhyStopped : List Event → List (List ℕ) → HistoryFault → Type 0
IsWhyStopped before lines (BadLine n) = events_from before lines ≡ Err n
IsWhyStopped before lines NoMemory = Unit {0}

-- why a text isn't read as a history: its first line that has no event, or memory is wanting
abbrev pub IsWhyUnread : List ℕ → HistoryFault → Type 0
IsWhyUnread text (BadLine n) = history_of text ≡ Err n
IsWhyUnread text NoMemory = Unit {0}
