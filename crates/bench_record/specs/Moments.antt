-- When an event stands in a history: by its time, in nanoseconds, and at one time by its kind.
use Rattle.std.specs.Prelude.{ℕ, ◌+◌, ◌*◌, List, Option, Some, None}
use Rattle.bench_history.specs.declared.event.Event.{Event}
use Rattle.bench_history.specs.declared.event.Event.TheVariants.{Sent, Replied, Excused, Entered, Left, LeftOneOf, Strayed, Dropped, Lost, Waited, Ended, Nothing}
use Rattle.bench_record.specs.Messages.{event_of_message, message_of}
use Rattle.bench_record.specs.declared.captured.CapturedFrame.{CapturedFrame}
use Rattle.bench_record.specs.declared.captured.Source.{Source}
use Rattle.bench_record.specs.declared.captured.Tap.{Tap}
use Rattle.bench_record.specs.declared.captured.Tap.TheVariants.{Omci, Into, OutOf}

-- an event at a time, and where it was seen; a wait and a loss weren't seen in any frame
pub record Timed : Type 0 where
  pub time : ℕ
  pub source : Option Source
  pub event : Event

-- at one time: messages that were sent, frames that were sent, replies, waits, frames that leave, frames that don't, and the end
abbrev pub rank_of : Event → ℕ
rank_of (Sent message) = 0
rank_of (Entered port extent frame) = 1
rank_of (Replied reply) = 2
rank_of (Excused reply) = 2
rank_of (Waited replies) = 3
rank_of (Left gem extent number frame) = 4
rank_of (LeftOneOf gem extent among) = 4
rank_of (Strayed gem extent frame) = 4
rank_of (Dropped number) = 5
rank_of (Lost number) = 5
rank_of Ended = 6
rank_of Nothing = 7

-- each time has eight moments, one for each rank
abbrev pub moment : ℕ → ℕ → ℕ
moment time rank = 8 * time + rank

abbrev pub moment_of : Timed → ℕ
moment_of timed = moment timed.time (rank_of timed.event)

abbrev pub rank_of_message : Option (List ℕ) → ℕ
rank_of_message (Some message) = rank_of (event_of_message message)
rank_of_message None = 0

-- the rank of what a frame shows that was captured there
abbrev pub rank_at : Tap → List ℕ → ℕ
rank_at Omci frame = rank_of_message (message_of frame)
rank_at (Into port) frame = 1
rank_at (OutOf gem) frame = 4

-- a captured frame, and where it stands in captures
pub record Sourced : Type 0 where
  pub source : Source
  pub frame : CapturedFrame

abbrev pub moment_of_frame : Sourced → ℕ
moment_of_frame s = moment s.frame.time (rank_at s.frame.tap s.frame.bytes.now)
