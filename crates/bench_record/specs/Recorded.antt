-- The history that captures show.
use Rattle.std.specs.Prelude.{ℕ, ◌+◌, ◌&&◌, ◌||◌, Bool, true, false, not, List, [], ◌∷◌, ◌++◌, length, map, Option, Some, None, if◌then◌else◌, nat_lt, nat_le, slice_get, take}
use Rattle.std.specs.List.{list_all, list_any}
use Rattle.bench_history.specs.declared.event.Event.{Event}
use Rattle.bench_history.specs.declared.event.Event.TheVariants.{Replied, Sent, Entered, Left, LeftOneOf, Strayed, Lost, Waited}
use Rattle.bench_history.specs.declared.extent.Extent.{Extent}
use Rattle.bench_history.specs.declared.extent.Extent.TheVariants.{Whole, Front}
use Rattle.bench_history.specs.declared.gem.SeenGem.{SeenGem}
use Rattle.omci_msg.specs.Message.{acknowledges, type_of}
use Rattle.bench_record.specs.Cores.{Core, core_of}
use Rattle.bench_record.specs.Matching.{Frames, SentFrame, candidates, is_doubtful, later, leave_at}
use Rattle.bench_record.specs.Messages.{is_managing, message_of}
use Rattle.bench_record.specs.Moments.{Sourced, Timed, moment_of, moment_of_frame}
use Rattle.bench_record.specs.Order.{in_order}
use Rattle.bench_record.specs.declared.captured.Capture.{Capture}
use Rattle.bench_record.specs.declared.captured.CapturedFrame.{CapturedFrame}
use Rattle.bench_record.specs.declared.captured.Side.{Side}
use Rattle.bench_record.specs.declared.captured.Side.TheVariants as side
use Rattle.bench_record.specs.declared.captured.Source.{Source}
use Rattle.bench_record.specs.declared.captured.Tap.{Tap}
use Rattle.bench_record.specs.declared.captured.Tap.TheVariants.{Omci, Into, OutOf}
use Rattle.bench_record.specs.declared.settings.RecordSettings.{RecordSettings}

-- ---- what a history can hold

-- frames have numbers of 32 bits from 0, and replies from 1; a line names at most so many frames
abbrev pub most_frames : ℕ
most_frames = 4294967296

abbrev pub most_replies : ℕ
most_replies = 4294967295

abbrev pub most_named : ℕ
most_named = 900

-- a line has at most 20,000 bytes: so many bytes of a frame have room behind the most that may stand in front, and beside the most numbers
abbrev pub longest_frame : ℕ
longest_frame = 9989

abbrev pub longest_named : ℕ
longest_named = 5000

-- what a line shows of a frame: of a longer one a front
abbrev pub extent_within : ℕ → Extent → List ℕ → Extent
extent_within most Front frame = Front
extent_within most Whole frame = if nat_le (length frame) most then Whole else Front

-- whether too little of a frame is known
abbrev pub is_unread : Extent → List ℕ → Bool
is_unread Whole frame = false
is_unread Front frame = nat_lt (length frame) 24

-- ---- what was seen so far

-- which captured frames were passed over, and why
pub record PassedOver : Type 0 where
  pub other : List Source
  pub unread : List Source
  pub early : List Source
  pub unwritable : List Source

-- the frames that were sent; how many replies were seen; the events; and what was passed over. Hidden has when frames left that are passed
-- over though each may be any that was sent; unnumbered is when the last frame was sent that is passed over, if one was
pub record Seen : Type 0 where
  pub frames : Frames
  pub replies : ℕ
  pub events : List Timed
  pub passed : PassedOver
  pub hidden : List ℕ
  pub unnumbered : Option ℕ

abbrev pub nothing_seen : Seen
nothing_seen = record {
  frames = record { sent = []; named = [] };
  replies = 0;
  events = [];
  passed = record { other = []; unread = []; early = []; unwritable = [] };
  hidden = [];
  unnumbered = None;
}

-- with events more
abbrev pub with_events : List Timed → Seen → Seen
with_events more seen = record seen { events = seen.events ++ more }

-- with one more frame sent
abbrev pub with_frame : SentFrame → Seen → Seen
with_frame sent seen = record seen { frames = record seen.frames { sent = seen.frames.sent ++ sent ∷ [] } }

-- one more is passed over
abbrev pub other : Source → Seen → Seen
other source seen = record seen { passed = record seen.passed { other = seen.passed.other ++ source ∷ [] } }

abbrev pub unread : Source → Seen → Seen
unread source seen = record seen { passed = record seen.passed { unread = seen.passed.unread ++ source ∷ [] } }

abbrev pub early : Source → Seen → Seen
early source seen = record seen { passed = record seen.passed { early = seen.passed.early ++ source ∷ [] } }

abbrev pub unwritable : Source → Seen → Seen
unwritable source seen = record seen { passed = record seen.passed { unwritable = seen.passed.unwritable ++ source ∷ [] } }

-- a frame that leaves at a time is passed over, though it may be one that was sent
abbrev pub hide : ℕ → Seen → Seen
hide time seen = record seen { hidden = seen.hidden ++ time ∷ [] }

-- a frame that is sent at a time is passed over
abbrev pub without_number : ℕ → Seen → Seen
without_number time seen = record seen { unnumbered = Some time }

-- ---- when captures begin and end

abbrev pub times_of : Capture → List ℕ
times_of capture = map (λ (frame : CapturedFrame). frame.time) capture.frames.now

-- the latest time at which a frame of an earlier one may leave, if that is known
abbrev pub latest : Option ℕ → ℕ → ℕ
latest (Some lost) time = later time lost
latest None time = time

abbrev pub is_into_side : Side → Bool
is_into_side side.Omci = false
is_into_side side.Into = true
is_into_side side.OutOf = false

abbrev pub is_into : Capture → Bool
is_into capture = is_into_side capture.side

abbrev pub is_out_of_side : Side → Bool
is_out_of_side side.Omci = false
is_out_of_side side.Into = false
is_out_of_side side.OutOf = true

abbrev pub is_out_of : Capture → Bool
is_out_of capture = is_out_of_side capture.side

-- a capture had begun when a frame was sent that leaves at a time: it has a record so long before
abbrev pub had_begun : Option ℕ → ℕ → Capture → Bool
had_begun lost time capture = list_any (λ t. nat_lt (latest lost t) time) (times_of capture)

-- whether a frame may have been sent before the captures in front of the unit began, if there are any
abbrev pub is_early : Option ℕ → List Capture → ℕ → Bool
is_early lost captures time =
    not (list_any is_into captures && list_all (λ capture. not (is_into capture) || had_begun lost time capture) captures)

-- a capture has a record behind a time
abbrev pub lasts : ℕ → Capture → Bool
lasts time capture = list_any (nat_lt time) (times_of capture)

-- whether a frame that leaves at a time may have been sent behind the end of a capture in front of the unit
abbrev pub is_behind : List Capture → ℕ → Bool
is_behind captures time = not (list_all (λ capture. not (is_into capture) || lasts time capture) captures)

-- a capture goes on from when a frame was sent until it is lost
abbrev pub covers : ℕ → ℕ → Capture → Bool
covers lost time capture =
    list_any (λ t. nat_le t time) (times_of capture) && list_any (λ t. nat_le (later time lost) t) (times_of capture)

-- whether a frame that leaves would have been captured: all captures behind the unit go on so long, and there are some
abbrev pub is_watched : ℕ → List Capture → ℕ → Bool
is_watched lost captures time =
    list_any is_out_of captures && list_all (λ capture. not (is_out_of capture) || covers lost time capture) captures

-- ---- one captured frame

-- an event that was seen in a captured frame
abbrev pub seen_in : Sourced → Event → Timed
seen_in at event = record { time = at.frame.time; source = Some at.source; event = event }

-- the wait for a reply that was seen at a time, if waits are set
abbrev pub waits : Option ℕ → ℕ → ℕ → List Timed
waits (Some wait) time number = record { time = later time wait; source = None; event = Waited (Some number) } ∷ []
waits None time number = []

abbrev pub see_reply : RecordSettings → Sourced → List ℕ → Seen → Seen
see_reply s at reply seen =
    if nat_lt seen.replies most_replies then with_events (seen_in at (Replied reply) ∷ waits s.wait at.frame.time (seen.replies + 1)) (record seen { replies = seen.replies + 1 })
    else unwritable at.source seen

-- AK 1 is a reply, AK 0 a message that was sent
abbrev pub see_message : RecordSettings → Sourced → Option (List ℕ) → Seen → Seen
see_message s at (Some message) seen =
    if acknowledges (type_of message) then see_reply s at message seen else with_events (seen_in at (Sent message) ∷ []) seen
see_message s at None seen = if is_managing at.frame.bytes.now then unread at.source seen else other at.source seen

abbrev pub core_in : RecordSettings → CapturedFrame → Core
core_in s frame = core_of s.padded s.tpids.now frame.extent frame.bytes.now

abbrev pub enter : RecordSettings → Sourced → ℕ → Seen → Seen
enter s at port seen =
    let frame = at.frame in
    if is_unread frame.extent frame.bytes.now then unread at.source (without_number frame.time seen)
    else if nat_lt (length seen.frames.sent) most_frames then
    with_events (seen_in at (Entered port (extent_within longest_frame frame.extent frame.bytes.now) (take longest_frame frame.bytes.now)) ∷ [])
    (with_frame (record { time = frame.time; core = core_in s frame; has_left = false; hidden_before = length seen.hidden }) seen)
    else unwritable at.source (without_number frame.time seen)

-- what is seen of a frame that leaves
abbrev pub left_as : ℕ → SeenGem → Sourced → Event
left_as n gem at = Left gem (extent_within longest_frame at.frame.extent at.frame.bytes.now) n (take longest_frame at.frame.bytes.now)

abbrev pub left_one_of : List ℕ → SeenGem → Sourced → Event
left_one_of numbers gem at =
    LeftOneOf gem (extent_within longest_named at.frame.extent at.frame.bytes.now) (record { frame = take longest_named at.frame.bytes.now; numbers = numbers })

abbrev pub strayed : SeenGem → Sourced → Event
strayed gem at = Strayed gem (extent_within longest_frame at.frame.extent at.frame.bytes.now) (take longest_frame at.frame.bytes.now)

-- whether a frame that leaves at a time may be one that was sent and passed over
abbrev pub may_be_unnumbered : Option ℕ → Option ℕ → ℕ → Bool
may_be_unnumbered lost (Some sent) time = nat_le time (latest lost sent)
may_be_unnumbered lost None time = false

-- no open frame can be it: it is a stray, or its frame may have been sent before, or been passed over
abbrev pub leave_unmatched : RecordSettings → List Capture → Sourced → SeenGem → Seen → Seen
leave_unmatched s captures at gem seen =
    if is_early s.lost captures at.frame.time || may_be_unnumbered s.lost seen.unnumbered at.frame.time then early at.source seen else with_events (seen_in at (strayed gem at) ∷ []) seen

-- it may be each of several, or the one is doubtful
abbrev pub leave_doubtful : Sourced → SeenGem → List ℕ → Seen → Seen
leave_doubtful at gem numbers seen =
    if nat_lt most_named (length numbers) then unwritable at.source (hide at.frame.time seen)
    else with_events (seen_in at (left_one_of numbers gem at) ∷ []) (record seen { frames = record seen.frames { named = seen.frames.named ++ numbers ∷ [] } })

abbrev pub leave_as : ℕ → Sourced → SeenGem → Seen → Seen
leave_as n at gem seen =
    with_events (seen_in at (left_as n gem at) ∷ []) (record seen { frames = record seen.frames { sent = leave_at n seen.frames.sent } })

abbrev pub leave_by : RecordSettings → List Capture → Sourced → SeenGem → List ℕ → Seen → Seen
leave_by s captures at gem [] seen = leave_unmatched s captures at gem seen
leave_by s captures at gem (n ∷ []) seen =
    if is_doubtful seen.frames.named n then leave_doubtful at gem (n ∷ []) seen else leave_as n at gem seen
leave_by s captures at gem (m ∷ n ∷ more) seen = leave_doubtful at gem (m ∷ n ∷ more) seen

-- whether a frame that leaves at a time is passed over, whichever frame it could be: some were on their way as the captures in front of the unit
-- began, and it may be one of these
abbrev pub is_from_before : RecordSettings → List Capture → ℕ → Bool
is_from_before s captures time = s.late && is_early s.lost captures time

-- likewise where some were sent behind the end of a capture in front of the unit
abbrev pub is_from_behind : RecordSettings → List Capture → ℕ → Bool
is_from_behind s captures time = s.early && is_behind captures time

-- whether it is passed over for one of these
abbrev pub is_passed_over : RecordSettings → List Capture → ℕ → Bool
is_passed_over s captures time = is_from_before s captures time || is_from_behind s captures time

abbrev pub leave : RecordSettings → List Capture → Sourced → SeenGem → Seen → Seen
leave s captures at gem seen =
    if is_unread at.frame.extent at.frame.bytes.now then unread at.source (hide at.frame.time seen)
    else if is_passed_over s captures at.frame.time then early at.source (hide at.frame.time seen)
    else leave_by s captures at gem (candidates s.lost at.frame.time (core_in s at.frame) seen.frames) seen

abbrev pub see_at : RecordSettings → List Capture → Sourced → Tap → Seen → Seen
see_at s captures at Omci seen = see_message s at (message_of at.frame.bytes.now) seen
see_at s captures at (Into port) seen = enter s at port seen
see_at s captures at (OutOf gem) seen = leave s captures at gem seen

abbrev pub see : RecordSettings → List Capture → Sourced → Seen → Seen
see s captures at seen = see_at s captures at at.frame.tap seen

-- ---- all of them

-- what is seen of further frames, in the order in which they stand
abbrev pub seen_from : RecordSettings → List Capture → Seen → List Sourced → Seen
seen_from s captures seen [] = seen
seen_from s captures seen (at ∷ more) = seen_from s captures (see s captures at seen) more

-- whether a time, if there is one, is no later than another
abbrev pub is_by : ℕ → Option ℕ → Bool
is_by time (Some t) = nat_le t time
is_by time None = false

-- whether a frame that was sent may be a hidden one: the next of these leaves before it is lost. They leave in order of time, so where the
-- next doesn't, no other does
abbrev pub may_be_hidden : ℕ → List ℕ → SentFrame → Bool
may_be_hidden lost hidden sent = is_by (later sent.time lost) (slice_get hidden sent.hidden_before)

-- whether a frame is told as lost: it wasn't seen to leave, isn't doubtful and isn't a hidden one, and would have been captured
abbrev pub is_missed : ℕ → List Capture → List ℕ → List (List ℕ) → ℕ → SentFrame → Bool
is_missed lost captures hidden named n sent =
    not sent.has_left && not (is_doubtful named n) && not (may_be_hidden lost hidden sent) && is_watched lost captures sent.time

-- the losses of frames, the first of which has this number
abbrev pub losses_from : ℕ → List Capture → List ℕ → List (List ℕ) → ℕ → List SentFrame → List Timed
losses_from lost captures hidden named n [] = []
losses_from lost captures hidden named n (sent ∷ more) =
    let behind = losses_from lost captures hidden named (n + 1) more in
    if is_missed lost captures hidden named n sent then record { time = later sent.time lost; source = None; event = Lost n } ∷ behind else behind

-- those of all frames, if a time is set after which a frame is lost
abbrev pub losses : Option ℕ → List Capture → List ℕ → Frames → List Timed
losses (Some lost) captures hidden frames = losses_from lost captures hidden frames.named 0 frames.sent
losses None captures hidden frames = []

-- the frames of a capture of a number, each with where it stands
abbrev pub sourced_from : ℕ → ℕ → List CapturedFrame → List Sourced
sourced_from capture n [] = []
sourced_from capture n (frame ∷ more) = record { source = record { capture = capture; place = n }; frame = frame } ∷ sourced_from capture (n + 1) more

-- those of captures, the first of which has this number
abbrev pub frames_from : ℕ → List Capture → List Sourced
frames_from capture [] = []
frames_from capture (c ∷ more) = sourced_from capture 1 c.frames.now ++ frames_from (capture + 1) more

-- the events of a history, and what was passed over
pub record History : Type 0 where
  pub events : List Timed
  pub passed : PassedOver

-- the history of what was seen
abbrev pub history_seen : RecordSettings → List Capture → Seen → History
history_seen s captures seen = record { events = in_order moment_of (seen.events ++ losses s.lost captures seen.hidden seen.frames); passed = seen.passed }

-- the history that captures show
abbrev pub history_shown : RecordSettings → List Capture → History
history_shown s captures = history_seen s captures (seen_from s captures nothing_seen (in_order moment_of_frame (frames_from 0 captures)))
