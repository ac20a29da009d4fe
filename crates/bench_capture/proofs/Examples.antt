-- Worked examples, computed.
use Rattle.std.proofs.Common.{◌≡◌, ℕ, List, [], ◌∷◌, ◌++◌, take, Some, None, refl}
use Rattle.bench_capture.specs.Classic.{classic_of, records_at}
use Rattle.bench_capture.specs.File.{reading_of}
use Rattle.bench_capture.specs.Reading.{nothing_left, stopped}
use Rattle.bench_capture.specs.declared.fault.CaptureFileFault.TheVariants.{Magic, Header, Link, Torn, TooLong}
use Rattle.bench_pcapng.specs.Blocks.{order_of_block, whole_length}
use Rattle.bench_pcapng.specs.Effects.{effect_of}
use Rattle.bench_pcapng.specs.Interfaces.{interface_of, options_of}
use Rattle.bench_pcapng.specs.Numbers.{number_in}
use Rattle.bench_pcapng.specs.Packets.{simple_of, stored_of}
use Rattle.bench_pcapng.specs.Reading as pcapng
use Rattle.bench_pcapng.specs.Sections.{section_of}

-- a classic header of this link type, lowest bytes first: in microseconds, and in nanoseconds
micro : ℕ → List ℕ
micro link = 0xd4 ∷ 0xc3 ∷ 0xb2 ∷ 0xa1 ∷ 2 ∷ 0 ∷ 4 ∷ 0 ∷ 0 ∷ 0 ∷ 0 ∷ 0 ∷ 0 ∷ 0 ∷ 0 ∷ 0 ∷ 0 ∷ 0 ∷ 4 ∷ 0 ∷ link ∷ 0 ∷ 0 ∷ 0 ∷ []

nano : List ℕ
nano = 0x4d ∷ 0x3c ∷ 0xb2 ∷ 0xa1 ∷ 2 ∷ 0 ∷ 4 ∷ 0 ∷ 0 ∷ 0 ∷ 0 ∷ 0 ∷ 0 ∷ 0 ∷ 0 ∷ 0 ∷ 0 ∷ 0 ∷ 4 ∷ 0 ∷ 1 ∷ 0 ∷ 0 ∷ 0 ∷ []

-- two bytes of a frame of 60, at 2 seconds and 3
cut : List ℕ
cut = 2 ∷ 0 ∷ 0 ∷ 0 ∷ 3 ∷ 0 ∷ 0 ∷ 0 ∷ 2 ∷ 0 ∷ 0 ∷ 0 ∷ 60 ∷ 0 ∷ 0 ∷ 0 ∷ 4 ∷ 5 ∷ []

-- the beginning of a record that stores 262,145 bytes
long : List ℕ
long = 0 ∷ 0 ∷ 0 ∷ 0 ∷ 0 ∷ 0 ∷ 0 ∷ 0 ∷ 1 ∷ 0 ∷ 4 ∷ 0 ∷ 1 ∷ 0 ∷ 4 ∷ 0 ∷ []

-- a section, an interface, and a packet without a time
section : List ℕ
section = 10 ∷ 13 ∷ 13 ∷ 10 ∷ 28 ∷ 0 ∷ 0 ∷ 0 ∷ 0x4d ∷ 0x3c ∷ 0x2b ∷ 0x1a ∷ 1 ∷ 0 ∷ 0 ∷ 0 ∷ 255 ∷ 255 ∷ 255 ∷ 255 ∷ 255 ∷ 255 ∷ 255 ∷ 255 ∷ 28 ∷ 0 ∷ 0 ∷ 0 ∷ []

interface : List ℕ
interface = 1 ∷ 0 ∷ 0 ∷ 0 ∷ 20 ∷ 0 ∷ 0 ∷ 0 ∷ 1 ∷ 0 ∷ 0 ∷ 0 ∷ 0 ∷ 0 ∷ 0 ∷ 0 ∷ 20 ∷ 0 ∷ 0 ∷ 0 ∷ []

simple : List ℕ
simple = 3 ∷ 0 ∷ 0 ∷ 0 ∷ 20 ∷ 0 ∷ 0 ∷ 0 ∷ 4 ∷ 0 ∷ 0 ∷ 0 ∷ 9 ∷ 8 ∷ 7 ∷ 6 ∷ 20 ∷ 0 ∷ 0 ∷ 0 ∷ []

in_microseconds : reading_of (micro 1 ++ cut) ≡ record {
  frames = record { time = 2000003000; original = 60; bytes = 4 ∷ 5 ∷ [] } ∷ [];
  fault = None;
}
unfolding reading_of classic_of records_at number_in micro cut
in_microseconds = refl

in_nanoseconds : reading_of (nano ++ cut ++ cut) ≡ record {
  frames = record { time = 2000000003; original = 60; bytes = 4 ∷ 5 ∷ [] } ∷ record { time = 2000000003; original = 60; bytes = 4 ∷ 5 ∷ [] } ∷ [];
  fault = None;
}
unfolding reading_of classic_of records_at number_in nano cut
in_nanoseconds = refl

torn_at_the_end : reading_of (micro 1 ++ cut ++ take 17 cut) ≡ record {
  frames = record { time = 2000003000; original = 60; bytes = 4 ∷ 5 ∷ [] } ∷ [];
  fault = Some (Torn 1);
}
unfolding reading_of classic_of records_at number_in micro cut
torn_at_the_end = refl

too_long : reading_of (micro 1 ++ cut ++ long) ≡ record {
  frames = record { time = 2000003000; original = 60; bytes = 4 ∷ 5 ∷ [] } ∷ [];
  fault = Some (TooLong 1);
}
unfolding reading_of classic_of records_at number_in micro cut long
too_long = refl

other_link : reading_of (micro 113 ++ cut) ≡ stopped (Link 113)
unfolding reading_of classic_of number_in micro cut
other_link = refl

cut_header : reading_of (take 23 (micro 1)) ≡ stopped Header
unfolding reading_of classic_of number_in micro
cut_header = refl

empty_file : reading_of [] ≡ stopped Magic
unfolding reading_of classic_of
empty_file = refl

without_records : reading_of (micro 1) ≡ nothing_left
unfolding reading_of classic_of records_at number_in micro
without_records = refl

a_packet : reading_of (section ++ interface ++ simple ++ take 12 simple) ≡ record {
  frames = record { time = 0; original = 4; bytes = 9 ∷ 8 ∷ 7 ∷ 6 ∷ [] } ∷ [];
  fault = Some (Torn 3);
}
unfolding reading_of pcapng.reading_of pcapng.opened pcapng.reading_at pcapng.step_of whole_length order_of_block number_in section_of effect_of interface_of options_of simple_of stored_of section interface simple
a_packet = refl
