-- A block that is passed over: its bytes are let go as they come, but for those of its packet. What it does is known from its front, and
-- is done once its end was seen.
use Rattle.std.specs.Prelude.{ℕ, ◌≡◌, ◌≤◌, ◌<◌, ◌⊎◌, ◌+◌, ◌-◌, ◌%◌, ◌||◌, Bool, true, false, not, List, [], ◌++◌, Option, Some, None, Result, Ok, Err, if◌then◌else◌, ◌==◌, min, nat_lt, length, take, drop, option_map}
use Rattle.bench_pcapng.specs.Blocks.{kind_of, order_of_block}
use Rattle.bench_pcapng.specs.Effects.{describes, effect_of}
use Rattle.bench_pcapng.specs.Fault.{at_block}
use Rattle.bench_pcapng.specs.Interfaces.{first_option, option_length, options_of, padded, plain_of}
use Rattle.bench_pcapng.specs.Numbers.{number_in}
use Rattle.bench_pcapng.specs.Packets.{data_start}
use Rattle.bench_pcapng.specs.Reading.{Progress, Reading, Step, Fails, after_step, is_pcapng, place_at, reading_at, reading_of, step_of, with_effect}
use Rattle.bench_pcapng.specs.declared.effect.Effect.{Effect}
use Rattle.bench_pcapng.specs.declared.effect.Effect.TheVariants as effects
use Rattle.bench_pcapng.specs.declared.fault.BlockFault.{BlockFault}
use Rattle.bench_pcapng.specs.declared.fault.BlockFault.TheVariants.{Torn}
use Rattle.bench_pcapng.specs.declared.fault.PcapngFault.{PcapngFault}
use Rattle.bench_pcapng.specs.declared.fault.PcapngFault.TheVariants.{Header}
use Rattle.bench_pcapng.specs.declared.interface.Interface.{Interface}
use Rattle.bench_pcapng.specs.declared.order.Order.{Order}
use Rattle.bench_pcapng.specs.declared.order.Order.TheVariants.{HighFirst}
use Rattle.bench_pcapng.specs.declared.outcome.Outcome.{Outcome}
use Rattle.bench_pcapng.specs.declared.outcome.Outcome.TheVariants.{Begins, Describing, Described, Keeps, Passes, Refuses}
use Rattle.bench_pcapng.specs.declared.passing.Passing.{Passing}
use Rattle.bench_pcapng.specs.declared.passing.Past.{Past}

-- ---- what is to be read

-- how many bytes of the block are kept: those of its packet
abbrev pub kept_of : Outcome → ℕ
kept_of (Keeps packet) = packet.length
kept_of (Begins order) = 0
kept_of (Describing interface) = 0
kept_of (Described interface) = 0
kept_of Passes = 0
kept_of (Refuses fault) = 0

-- how many bytes stand in front of its second length: those that are kept, and those that are left
abbrev pub inside_of : Passing → ℕ
inside_of passing = kept_of passing.outcome + passing.left

-- what it does, where these are the bytes in front of its second length
abbrev pub outcome_in : Order → Outcome → List ℕ → Result Effect BlockFault
outcome_in order (Begins own) inside = Ok (effects.Section own)
outcome_in order (Describing plain) inside = describes (options_of order plain inside)
outcome_in order (Described interface) inside = Ok (effects.Describes interface)
outcome_in order (Keeps packet) inside = Ok (effects.Gives (record {
  interface = packet.interface;
  time = packet.time;
  original = packet.original;
  bytes = take packet.length inside;
}))
outcome_in order Passes inside = Ok effects.Nothing
outcome_in order (Refuses fault) inside = Err fault

-- the fault of a capture whose block of this number has one; that of the first block of a file is one of its header
abbrev pub fault_in : Bool → ℕ → BlockFault → PcapngFault
fault_in true n fault = Header
fault_in false n fault = at_block n fault

abbrev pub ends_with : Bool → Progress → List ℕ → Result Effect BlockFault → Step
ends_with first known behind (Err fault) = Fails (fault_in first known.number fault)
ends_with first known behind (Ok effect) = with_effect (place_at known behind) behind effect

-- The rest of the block, whose second length has to be the first one: it does what its front showed, or has a fault.
unfoldable pub step_within : Progress → Passing → List ℕ → Step
step_within known passing bytes =
    let inside = inside_of passing in
    if nat_lt (length bytes) (inside + 4) then Fails (fault_in passing.first known.number Torn)
    else (if number_in 4 passing.order (drop inside bytes) == passing.total
    then ends_with passing.first known (drop (inside + 4) bytes) (outcome_in passing.order passing.outcome (take inside bytes))
    else Fails (fault_in passing.first known.number Torn))

-- what is to be read within such a block
abbrev pub passing_at : Progress → Passing → List ℕ → Reading
passing_at known passing bytes = after_step (λ next. reading_at next) (step_within known passing bytes)

-- between two blocks, or within one
abbrev pub going_on : Progress → Option Passing → List ℕ → Reading
going_on known None bytes = reading_at (place_at known bytes)
going_on known (Some passing) bytes = passing_at known passing bytes

-- ---- which bytes are let go

-- the bytes without those that are let go
abbrev pub without : Past → List ℕ → List ℕ
without past bytes = take past.start bytes ++ drop (past.start + past.length) bytes

-- so many bytes are let go of those that are left, behind so many others
abbrev pub letting : ℕ → ℕ → Passing → Past
letting start size passing = record { start = start; length = size; left = record passing { left = passing.left - size } }

-- ---- the front of a block

-- as many bytes of a block show what it does, but for the options of an interface, and as many of its body
abbrev pub shown_length : ℕ
shown_length = 262176

abbrev pub body_shown : List ℕ → List ℕ
body_shown bytes = take 262164 (drop 8 bytes)

-- a block of this order and length, of which nothing was let go
abbrev pub begun : Order → ℕ → Outcome → Passing
begun order total outcome =
    record { first = false; order = order; left = total - 4 - kept_of outcome; total = total; outcome = outcome }

-- a block with this effect: of one that holds a packet, what stands in front of the packet's bytes is let go
abbrev pub passed_by : Order → ℕ → ℕ → Result Effect BlockFault → Option Past
passed_by order total kind (Err fault) = Some (letting 0 0 (begun order total (Refuses fault)))
passed_by order total kind (Ok effects.Nothing) = Some (letting 0 0 (begun order total Passes))
passed_by order total kind (Ok (effects.Section own)) = Some (letting 0 0 (begun order total (Begins own)))
passed_by order total kind (Ok (effects.Describes interface)) = None
passed_by order total kind (Ok (effects.Gives packet)) = Some (letting 0 (data_start kind) (begun order total (Keeps (record {
  interface = packet.interface;
  time = packet.time;
  original = packet.original;
  length = length packet.bytes;
}))))

-- one that describes an interface: what stands in front of its options is let go
abbrev pub described_by : Order → ℕ → List ℕ → Past
described_by order total body = letting 0 16 (begun order total (Describing (plain_of order body)))

-- whether a block of this length is longer than these bytes, of which there are enough
abbrev pub is_shown : List ℕ → ℕ → Bool
is_shown bytes total =
    not (nat_lt (length bytes) shown_length || not (total % 4 == 0) || not (nat_lt (length bytes) total))

abbrev pub passing_by : Progress → List ℕ → Order → ℕ → ℕ → Option Past
passing_by known bytes own kind total =
    if is_shown bytes total then (if kind == 1 then Some (described_by own total (body_shown bytes))
    else passed_by own total kind (effect_of known.order known.interfaces known.time kind (body_shown bytes))) else None

abbrev pub passing_in : Progress → List ℕ → Option Order → Option Past
passing_in known bytes None = None
passing_in known bytes (Some own) = passing_by known bytes own (kind_of known.order bytes) (number_in 4 own (drop 4 bytes))

-- How the block at the front of these bytes is passed over, and which of them are let go at once. None where there are under 262,176 of
-- them, or they show whether the block is whole.
unfoldable pub passing_of : Progress → List ℕ → Option Past
passing_of known bytes = if nat_lt (length bytes) shown_length then None else passing_in known bytes (order_of_block known.order bytes)

-- ---- the bytes within it

-- what an option makes of the interface so far
abbrev pub option_outcome : Option Interface → Outcome
option_outcome None = Refuses Torn
option_outcome (Some interface) = Describing interface

-- Of the options of an interface one at a time is let go, and all from one on that ends them. A last one that is cut isn't.
abbrev pub letting_option : Passing → Interface → List ℕ → Option Past
letting_option passing plain options =
    if nat_lt (length options) 4 then None
    else (if number_in 2 passing.order options == 0 then Some (letting 0 4 (record passing { outcome = Described plain }))
    else (if nat_lt (length (drop 4 options)) (padded (option_length passing.order options)) then None
    else Some (letting 0 (4 + padded (option_length passing.order options))
    (record passing { outcome = option_outcome (first_option passing.order plain options) }))))

-- of any other block all bytes that come in front of its second length, but for those that are kept
abbrev pub letting_all : Passing → List ℕ → Option Past
letting_all passing bytes =
    let size = min passing.left (length bytes - kept_of passing.outcome) in
    if size == 0 then None else Some (letting (kept_of passing.outcome) size passing)

abbrev pub letting_by : Passing → Outcome → List ℕ → Option Past
letting_by passing (Describing plain) bytes = letting_option passing plain (take passing.left bytes)
letting_by passing (Begins order) bytes = letting_all passing bytes
letting_by passing (Described interface) bytes = letting_all passing bytes
letting_by passing (Keeps packet) bytes = letting_all passing bytes
letting_by passing Passes bytes = letting_all passing bytes
letting_by passing (Refuses fault) bytes = letting_all passing bytes

-- which of these bytes, with which a block that is passed over goes on, are let go. None where none of them can be.
unfoldable pub letting_of : Passing → List ℕ → Option Past
letting_of passing bytes = letting_by passing passing.outcome bytes

-- the bytes are few, or hold all of the block
abbrev pub IsHeldOf : Passing → List ℕ → Type 0
IsHeldOf passing bytes = (inside_of passing + 4 ≤ length bytes) ⊎ (length bytes < shown_length)

-- ---- the first block of a file

-- what is known in front of the first block, which shows its own byte order
abbrev pub at_first : Progress
at_first = record { order = HighFirst; interfaces = []; time = 0; number = 0 }

abbrev pub as_first : Past → Past
as_first past = record past { left = record past.left { first = true } }

-- how the first block is passed over, if it tells the format
abbrev pub first_passing_of : List ℕ → Option Past
first_passing_of file = if is_pcapng file then option_map as_first (passing_of at_first file) else None

-- ---- what is passed over does what it does where it is held

-- whatever follows these bytes, the block at their front does what the rest of it does without the bytes that are let go
abbrev pub DoesAsHeld : Progress → List ℕ → Past → Type 0
DoesAsHeld known bytes past =
    (more : List ℕ) → step_of (place_at known (bytes ++ more)) ≡ step_within known past.left (without past bytes ++ more)

-- so does a block within which these bytes stand
abbrev pub RestDoesAsHeld : Passing → List ℕ → Past → Type 0
RestDoesAsHeld passing bytes past =
    (known : Progress) (more : List ℕ) → step_within known passing (bytes ++ more) ≡ step_within known past.left (without past bytes ++ more)

-- and as much is read of a file whose first block it is
abbrev pub FileReadsAsHeld : List ℕ → Past → Type 0
FileReadsAsHeld file past = (more : List ℕ) → reading_of (file ++ more) ≡ passing_at at_first past.left (without past file ++ more)
