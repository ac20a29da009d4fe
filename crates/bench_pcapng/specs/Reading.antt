-- The packets of a file and its first fault. A file is a section header block, and behind it other blocks.
use Rattle.std.specs.Prelude.{ℕ, zero, suc, ◌+◌, ◌&&◌, Bool, not, List, [], ◌∷◌, ◌++◌, Option, Some, None, Result, Ok, Err, if◌then◌else◌, ◌==◌, nat_lt, length, drop}
use Rattle.bench_pcapng.specs.Blocks.{body_of, kind_of, section_kind, whole_length}
use Rattle.bench_pcapng.specs.Captured.{Captured}
use Rattle.bench_pcapng.specs.Effects.{effect_of}
use Rattle.bench_pcapng.specs.Fault.{at_block}
use Rattle.bench_pcapng.specs.Numbers.{number_in}
use Rattle.bench_pcapng.specs.Sections.{section_of}
use Rattle.bench_pcapng.specs.declared.effect.Effect.{Effect}
use Rattle.bench_pcapng.specs.declared.effect.Effect.TheVariants.{Section, Describes, Gives, Nothing}
use Rattle.bench_pcapng.specs.declared.fault.BlockFault.{BlockFault}
use Rattle.bench_pcapng.specs.declared.fault.PcapngFault.{PcapngFault}
use Rattle.bench_pcapng.specs.declared.fault.PcapngFault.TheVariants.{Header, Torn}
use Rattle.bench_pcapng.specs.declared.interface.Interface.{Interface}
use Rattle.bench_pcapng.specs.declared.order.Order.{Order}
use Rattle.bench_pcapng.specs.declared.order.Order.TheVariants.{HighFirst}

-- ---- one block

-- What stands between two blocks: the byte order and the interfaces of the section, the time of the packet before, 0 where there is
-- none, the number of the next block, from 0, and the bytes from there on.
pub record Place : Type 0 where
  pub order : Order
  pub interfaces : List Interface
  pub time : ℕ
  pub number : ℕ
  pub bytes : List ℕ

-- what is known between two blocks, but for the bytes
pub record Progress : Type 0 where
  pub order : Order
  pub interfaces : List Interface
  pub time : ℕ
  pub number : ℕ

-- the place from which on there are these bytes
abbrev pub place_at : Progress → List ℕ → Place
place_at known bytes = record {
  order = known.order;
  interfaces = known.interfaces;
  time = known.time;
  number = known.number;
  bytes = bytes;
}

-- a block is passed, yields a packet, or has a fault
pub data Step : Type 0 where
  Passes : (next : Place) → Step
  Yields : (packet : Captured) (next : Place) → Step
  Fails : (fault : PcapngFault) → Step

-- the place behind a block that changes nothing else
abbrev pub past : Place → List ℕ → Place
past place behind = record place { number = place.number + 1; bytes = behind }

-- The place behind a block with this effect. A section begins with no interface, and the time is kept.
abbrev pub with_effect : Place → List ℕ → Effect → Step
with_effect place behind (Section order) = Passes (record (past place behind) { order = order; interfaces = [] })
with_effect place behind (Describes interface) =
    Passes (record (past place behind) { interfaces = place.interfaces ++ interface ∷ [] })
with_effect place behind (Gives packet) = Yields packet (record (past place behind) { time = packet.time })
with_effect place behind Nothing = Passes (past place behind)

abbrev pub with_effect_or_fault : Place → List ℕ → Result Effect BlockFault → Step
with_effect_or_fault place behind (Err fault) = Fails (at_block place.number fault)
with_effect_or_fault place behind (Ok effect) = with_effect place behind effect

-- the next block, whose length is this, None where it isn't whole
abbrev pub step_by : Place → Option ℕ → Step
step_by place None = Fails (Torn place.number)
step_by place (Some total) =
    with_effect_or_fault place (drop total place.bytes)
    (effect_of place.order place.interfaces place.time (kind_of place.order place.bytes) (body_of total place.bytes))

unfoldable pub step_of : Place → Step
step_of place = step_by place (whole_length place.order place.bytes)

-- ---- all blocks

-- the packets of the blocks up to the first that has a fault, and that fault
pub record Reading : Type 0 where
  pub packets : List Captured
  pub fault : Option PcapngFault

abbrev pub nothing_left : Reading
nothing_left = record { packets = []; fault = None }

abbrev pub stopped : PcapngFault → Reading
stopped fault = record { packets = []; fault = Some fault }

abbrev pub with_packet : Captured → Reading → Reading
with_packet packet reading = record { packets = packet ∷ reading.packets; fault = reading.fault }

-- what a block gives, and the blocks behind it
abbrev pub after_step : (Place → Reading) → Step → Reading
after_step more (Passes next) = more next
after_step more (Yields packet next) = with_packet packet (more next)
after_step more (Fails fault) = stopped fault

-- what so many blocks at most give, from a place on
abbrev pub reading_from : ℕ → Place → Reading
reading_from zero place = nothing_left
reading_from (suc most) place =
    if length place.bytes == 0 then nothing_left else after_step (λ next. reading_from most next) (step_of place)

-- what all blocks give: none is without bytes, so there are never more than bytes
unfoldable pub reading_at : Place → Reading
reading_at place = reading_from (length place.bytes) place

-- ---- the file

-- whether a file is told to be in the format: by its first four bytes, 0a 0d 0d 0a
abbrev pub is_pcapng : List ℕ → Bool
is_pcapng file = not (nat_lt (length file) 4) && (number_in 4 HighFirst file == section_kind)

-- the place behind the first block of this length, if that begins a section
abbrev pub opened_in : Option Order → List ℕ → Option Place
opened_in None behind = None
opened_in (Some order) behind =
    Some (record { order = order; interfaces = []; time = 0; number = 1; bytes = behind })

abbrev pub opened_by : Option ℕ → List ℕ → Option Place
opened_by None file = None
opened_by (Some total) file = opened_in (section_of (body_of total file)) (drop total file)

-- the place behind the first block; a section header shows its order itself, so whichever is asked for
unfoldable pub opened : List ℕ → Option Place
opened file = if is_pcapng file then opened_by (whole_length HighFirst file) file else None

abbrev pub reading_behind : Option Place → Reading
reading_behind None = stopped Header
reading_behind (Some place) = reading_at place

-- the packets of a file and its first fault
unfoldable pub reading_of : List ℕ → Reading
reading_of file = reading_behind (opened file)

-- the packets of the longest sound front
abbrev pub packets_of : List ℕ → List Captured
packets_of file = (reading_of file).packets

-- the first fault, None where there is none
abbrev pub first_fault : List ℕ → Option PcapngFault
first_fault file = (reading_of file).fault
