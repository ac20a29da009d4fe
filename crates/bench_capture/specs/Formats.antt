-- What is left of a capture behind what was read of it, and what reading a record or a block of it gives.
use Rattle.std.specs.Prelude.{◌≡◌, ◌≤◌, ◌<◌, ◌+◌, ℕ, ◌⊎◌, ⊤, Bool, true, false, List, [], ◌++◌, Option, Some, None, Result, Ok, Err, IfSome, if◌then◌else◌, option_map, length, take, drop}
use Rattle.bench_capture.specs.Classic.{records_at}
use Rattle.bench_capture.specs.File.{reading_in, reading_of}
use Rattle.bench_capture.specs.Reading.{Reading, nothing_left, stopped, with_frame}
use Rattle.bench_capture.specs.Recorded.{Recorded}
use Rattle.bench_capture.specs.declared.fault.CaptureFileFault.{CaptureFileFault}
use Rattle.bench_capture.specs.declared.fault.CaptureFileFault.TheVariants.{Header, Link, Torn, TooLong}
use Rattle.bench_capture.specs.declared.fault.NextFrameFault.{NextFrameFault}
use Rattle.bench_capture.specs.declared.fault.NextFrameFault.TheVariants.{Capture, NoMemory}
use Rattle.bench_capture.specs.declared.format.Format.{Format}
use Rattle.bench_capture.specs.declared.format.Format.TheVariants.{Classic, Pcapng}
use Rattle.bench_capture.specs.declared.span.Gap.{Gap}
use Rattle.bench_capture.specs.declared.span.Span.{Span}
use Rattle.bench_capture.specs.declared.span.Taken.{Taken}
use Rattle.bench_pcapng.specs.Blocks.{wanted_length}
use Rattle.bench_pcapng.specs.Passing.{going_on, inside_of, kept_of, letting_of, passing_of, shown_length}
use Rattle.bench_pcapng.specs.Reading as pcapng
use Rattle.bench_pcapng.specs.Reading.{Progress}
use Rattle.bench_pcapng.specs.declared.blocks.Block.{Block}
use Rattle.bench_pcapng.specs.declared.blocks.Located.{Located}
use Rattle.bench_pcapng.specs.declared.fault.PcapngFault.{PcapngFault}
use Rattle.bench_pcapng.specs.declared.fault.PcapngFault.TheVariants as faults
use Rattle.bench_pcapng.specs.declared.order.Order.TheVariants.{HighFirst}
use Rattle.bench_pcapng.specs.declared.passing.Passing.{Passing}
use Rattle.bench_pcapng.specs.declared.passing.Past.{Past}

-- what is to be read of a capture whose bytes go on with these
abbrev pub reading_at : Format → List ℕ → Reading
reading_at (Classic records) bytes = records_at records.order records.nanoseconds records.number bytes
reading_at (Pcapng pieces) bytes = reading_in (going_on pieces.blocks pieces.passing bytes)

-- what is left where a file ends: nothing, or the fault that it has there
abbrev pub ended_by : Option CaptureFileFault → Reading
ended_by None = nothing_left
ended_by (Some fault) = stopped fault

-- how many blocks of a capture in the pcapng format were read
abbrev pub blocks_read : Format → ℕ
blocks_read (Classic records) = 0
blocks_read (Pcapng pieces) = (let blocks = pieces.blocks in blocks.number)

-- ---- frames as parts of bytes

-- the frame that a span of the bytes is
abbrev pub recorded_at : List ℕ → Span → Recorded
recorded_at bytes span = record { time = span.time; original = span.original; bytes = take span.length (drop span.start bytes) }

abbrev pub IsWithin : List ℕ → Span → Type 0
IsWithin bytes span = span.start + span.length ≤ length bytes

-- the frame, if there is one, and what is behind it
abbrev pub with_span : List ℕ → Option Span → Reading → Reading
with_span bytes None later = later
with_span bytes (Some span) later = with_frame (recorded_at bytes span) later

-- ---- one record or block

-- of a block that is passed over, all that is left of it
abbrev pub wanted_within : Option Passing → ℕ → ℕ
wanted_within None between = between
wanted_within (Some passing) between = inside_of passing + 4

-- how many bytes show whether the next record or block has a fault
abbrev pub wanted_of : Format → List ℕ → ℕ
wanted_of (Classic records) bytes = 262160
wanted_of (Pcapng pieces) bytes = wanted_within pieces.passing (let blocks = pieces.blocks in wanted_length blocks.order bytes)

-- how many bytes of a file show whether its beginning has a fault
abbrev pub wanted_to_open : List ℕ → ℕ
wanted_to_open file = if pcapng.is_pcapng file then wanted_length HighFirst file else 24

-- these bytes are so many, or no more follow
abbrev pub AreEnough : ℕ → List ℕ → List ℕ → Type 0
AreEnough wanted bytes more = (more ≡ []) ⊎ (wanted ≤ length bytes)

-- What the front of the bytes was: a record or a block of so many bytes, which may hold a frame. Whatever follows the bytes, that
-- frame and what is left behind it is what there was to be read.
pub record IsTaken (old : Format) (bytes : List ℕ) (taken : Taken) (new : Format) : Type 0 where
  pub some : 0 < taken.length
  pub within : taken.length ≤ length bytes
  pub span : IfSome taken.frame (IsWithin bytes)
  pub counted : blocks_read new ≤ blocks_read old + taken.length
  pub reads : (more : List ℕ) → reading_at old (bytes ++ more) ≡ with_span bytes taken.frame (reading_at new (drop taken.length bytes ++ more))

-- a record or block that has this fault, if the bytes are enough to show it
pub record IsFaulty (old : Format) (bytes : List ℕ) (fault : CaptureFileFault) (new : Format) : Type 0 where
  pub same : new ≡ old
  pub reads : (more : List ℕ) → AreEnough (wanted_of old bytes) bytes more → reading_at old (bytes ++ more) ≡ stopped fault

-- what taking a record or a block from the front of the bytes gives
abbrev pub Takes : Format → List ℕ → Result Taken NextFrameFault → Format → Type 0
Takes old bytes (Ok taken) new = IsTaken old bytes taken new
Takes old bytes (Err (Capture fault)) new = IsFaulty old bytes fault new
Takes old bytes (Err NoMemory) new = new ≡ old

-- what the beginning of a file is: so many bytes, behind which the rest of it goes on; or it has a fault, if the bytes are enough
-- to show it
abbrev pub Opens : List ℕ → Result (Format × ℕ) CaptureFileFault → Type 0
Opens file (Ok (format, size)) = (size ≤ length file) × (blocks_read format ≤ size)
    × ((more : List ℕ) → reading_of (file ++ more) ≡ reading_at format (drop size file ++ more))
Opens file (Err fault) = (more : List ℕ) → AreEnough (wanted_to_open file) file more → reading_of (file ++ more) ≡ stopped fault

-- ---- bytes that are let go

-- the bytes without those that are let go
abbrev pub cut_of : Gap → List ℕ → List ℕ
cut_of gap bytes = take gap.start bytes ++ drop (gap.start + gap.length) bytes

-- what is to be read without the bytes that are let go, which are among these, is what there was to be read
abbrev pub LetsGo : Format → List ℕ → Option Gap → Format → Type 0
LetsGo old bytes None new = new ≡ old
LetsGo old bytes (Some gap) new = (gap.start + gap.length ≤ length bytes)
    × ((more : List ℕ) → reading_at new (cut_of gap bytes ++ more) ≡ reading_at old (bytes ++ more))

abbrev pub is_passing : Option Passing → Bool
is_passing None = false
is_passing (Some passing) = true

-- which bytes are let go of the next block, or of the one that is passed over
abbrev pub past_by : Option Passing → Progress → List ℕ → Option Past
past_by None known bytes = passing_of known bytes
past_by (Some passing) known bytes = letting_of passing bytes

-- whether a block is passed over
abbrev pub is_within : Format → Bool
is_within (Classic records) = false
is_within (Pcapng pieces) = is_passing pieces.passing

-- of a block that is passed over no more bytes are kept than show what it does
abbrev pub FewKept : Format → Type 0
FewKept (Classic records) = ⊤
FewKept (Pcapng pieces) = IfSome pieces.passing (λ passing. kept_of passing.outcome ≤ 262164)

-- the bytes are few, or show whether the next record or block has a fault
abbrev pub IsHeld : Format → List ℕ → Type 0
IsHeld format bytes = (wanted_of format bytes ≤ length bytes) ⊎ (length bytes < shown_length)

-- what is known within a first block that the bytes don't hold all of, without those that are let go
abbrev pub OpensLong : List ℕ → Option (Format × Gap) → Type 0
OpensLong file None = ⊤
OpensLong file (Some (format, gap)) = (gap.start + gap.length ≤ length file) × FewKept format
    × ((more : List ℕ) → reading_of (file ++ more) ≡ reading_at format (cut_of gap file ++ more))

-- ---- blocks of the pcapng format

-- the span of a packet in its block
abbrev pub span_of : Located → Span
span_of located = record {
  time = located.packet.time;
  original = located.packet.original;
  start = located.start;
  length = length located.packet.bytes;
}

abbrev pub taken_of : Block → Taken
taken_of block = record { length = block.length; frame = option_map span_of block.packet }

abbrev pub frame_fault_of : PcapngFault → NextFrameFault
frame_fault_of faults.Header = Capture Header
frame_fault_of (faults.Link link) = Capture (Link link)
frame_fault_of (faults.Torn n) = Capture (Torn n)
frame_fault_of (faults.TooLong n) = Capture (TooLong n)
frame_fault_of faults.NoMemory = NoMemory
