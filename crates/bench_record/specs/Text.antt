-- A history as a text.
use Rattle.std.specs.Prelude.{ℕ, ◌/◌, ◌%◌, ◌-◌, List, [], ◌∷◌, ◌++◌, Option, Some, None, codes, length, map, replicate, slice_index_or}
use Rattle.std.specs.Fmt.{decimal}
use Rattle.std.specs.Borrow.{Bor}
use Rattle.std.specs.List.{flat_map}
use Rattle.std.specs.Option.{option_map}
use Rattle.hex.specs.Hex.{encode_lower}
use Rattle.bench_history.specs.declared.event.Event.{Event}
use Rattle.bench_history.specs.declared.event.Event.TheVariants.{Sent, Replied, Excused, Entered, Left, LeftOneOf, Strayed, Dropped, Lost, Waited, Ended, Nothing}
use Rattle.bench_history.specs.declared.extent.Extent.{Extent}
use Rattle.bench_history.specs.declared.extent.Extent.TheVariants.{Whole, Front}
use Rattle.bench_history.specs.declared.gem.SeenGem.{SeenGem}
use Rattle.bench_history.specs.declared.gem.SeenGem.TheVariants.{Port, Any}
use Rattle.bench_record.specs.Moments.{Timed}
use Rattle.bench_record.specs.declared.captured.Source.{Source}
use Rattle.bench_record.specs.declared.event.RecordedEvent.{RecordedEvent}
use Rattle.bench_record.specs.declared.event.RecordedEvent.TheVariants as recorded
use Rattle.bench_record.specs.declared.event.TimedEvent.{TimedEvent}

-- an event, as a history has it
abbrev pub event_shown : RecordedEvent → Event
event_shown (recorded.Sent message) = Sent message.now
event_shown (recorded.Replied reply) = Replied reply.now
event_shown (recorded.Entered port extent frame) = Entered port extent frame.now
event_shown (recorded.Left gem extent number frame) = Left gem extent number frame.now
event_shown (recorded.LeftOneOf gem extent frame numbers) = LeftOneOf gem extent (record { frame = frame.now; numbers = numbers.items })
event_shown (recorded.Strayed gem extent frame) = Strayed gem extent frame.now
event_shown (recorded.Lost number) = Lost number
event_shown (recorded.Waited replies) = Waited (Some replies)

abbrev pub timed_shown : TimedEvent → Timed
timed_shown timed = record { time = timed.time; source = timed.source; event = event_shown timed.event }

-- a GEM port, if it was seen
abbrev pub gem_of : SeenGem → List ℕ
gem_of (Port gem) = decimal gem
gem_of Any = codes "any"

-- what stands in front of the digits; a reply that is excused has no line
abbrev pub head_of : Event → List ℕ
head_of (Sent message) = codes "o "
head_of (Replied reply) = codes "r "
head_of (Excused reply) = []
head_of (Entered port extent frame) = codes "f " ++ decimal port ++ 32 ∷ []
head_of (Left gem extent number frame) = codes "g " ++ decimal number ++ 32 ∷ [] ++ gem_of gem ++ 32 ∷ []
head_of (LeftOneOf gem extent among) = codes "a " ++ gem_of gem ++ 32 ∷ []
head_of (Strayed gem extent frame) = codes "s " ++ gem_of gem ++ 32 ∷ []
head_of (Dropped number) = codes "d " ++ decimal number
head_of (Lost number) = codes "l " ++ decimal number
head_of (Waited (Some replies)) = codes "w " ++ decimal replies
head_of (Waited None) = codes "w"
head_of Ended = codes "e"
head_of Nothing = []

-- the bytes that are spelled
abbrev pub bytes_of : Event → List ℕ
bytes_of (Sent message) = message
bytes_of (Replied reply) = reply
bytes_of (Entered port extent frame) = frame
bytes_of (Left gem extent number frame) = frame
bytes_of (LeftOneOf gem extent among) = among.frame
bytes_of (Strayed gem extent frame) = frame
bytes_of _ = []

-- what stands behind the digits of a frame: two full stops where it had more bytes, and the numbers of the frames of which it is one
abbrev pub behind : Extent → List ℕ
behind Whole = []
behind Front = codes ".."

abbrev pub dots_of : Event → List ℕ
dots_of (Entered port extent frame) = behind extent
dots_of (Left gem extent number frame) = behind extent
dots_of (LeftOneOf gem extent among) = behind extent
dots_of (Strayed gem extent frame) = behind extent
dots_of _ = []

abbrev pub numbers_of : Event → List ℕ
numbers_of (LeftOneOf gem extent among) = flat_map (λ n. 32 ∷ decimal n) among.numbers
numbers_of _ = []

abbrev pub tail_of : Event → List ℕ
tail_of event = dots_of event ++ numbers_of event

-- the line of an event: its letter, numbers and digits in lower case, and a line feed
abbrev pub line_of : Event → List ℕ
line_of event = head_of event ++ (encode_lower (bytes_of event) ++ (tail_of event ++ 10 ∷ []))

-- a time in seconds, with nine digits behind the point
abbrev pub seconds : ℕ → List ℕ
seconds time =
    let behind = decimal (time % 1000000000) in
    decimal (time / 1000000000) ++ codes "." ++ replicate (9 - length behind) 48 ++ behind

-- the remark of where an event was seen, in the captures of these names
abbrev pub remark_of : List (List ℕ) → ℕ → Option Source → List ℕ
remark_of names time None = []
remark_of names time (Some source) =
    codes "# " ++ slice_index_or names source.capture [] ++ codes " record " ++ decimal source.place ++ codes " " ++ seconds time ++ codes " s\n"

-- the names of captures, as the program is given them
abbrev pub names_of : Option (Bor (List (Bor (List ℕ)))) → Option (List (List ℕ))
names_of names = option_map (λ (given : Bor (List (Bor (List ℕ)))). map (λ (name : Bor (List ℕ)). name.now) given.now) names

-- that remark, if remarks are asked for
abbrev pub remarks_of : Option (List (List ℕ)) → ℕ → Option Source → List ℕ
remarks_of None time source = []
remarks_of (Some names) time source = remark_of names time source

-- the lines of an event, the remark among them
abbrev pub lines_of : Option (List (List ℕ)) → Timed → List ℕ
lines_of names timed = remarks_of names timed.time timed.source ++ line_of timed.event

-- the lines of events, and of the end of the observation
abbrev pub text_of : Option (List (List ℕ)) → List Timed → List ℕ
text_of names events = flat_map (lines_of names) events ++ line_of Ended
