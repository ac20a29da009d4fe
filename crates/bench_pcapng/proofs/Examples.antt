-- Worked examples, computed.
use Rattle.std.proofs.Common.{◌≡◌, ◌^◌, ◌-◌, ℕ, List, [], ◌∷◌, ◌++◌, take, Some, None, refl}
use Rattle.bench_pcapng.specs.Blocks.{order_of_block, whole_length}
use Rattle.bench_pcapng.specs.Effects.{effect_of}
use Rattle.bench_pcapng.specs.Interfaces.{behind_option, first_option, interface_of, options_of}
use Rattle.bench_pcapng.specs.Numbers.{number_in}
use Rattle.bench_pcapng.specs.Packets.{enhanced_of, obsolete_of, simple_of, stored_of, timed_of}
use Rattle.bench_pcapng.specs.Reading.{nothing_left, opened, reading_at, reading_of, step_of, stopped}
use Rattle.bench_pcapng.specs.Sections.{section_of}
use Rattle.bench_pcapng.specs.Times.{moved_by, nanoseconds_in}
use Rattle.bench_pcapng.specs.declared.fault.PcapngFault.TheVariants.{Header, Link, Torn}

-- a section header whose lowest bytes come first
low_section : List ℕ
low_section = 10 ∷ 13 ∷ 13 ∷ 10 ∷ 28 ∷ 0 ∷ 0 ∷ 0 ∷ 0x4d ∷ 0x3c ∷ 0x2b ∷ 0x1a ∷ 1 ∷ 0 ∷ 0 ∷ 0 ∷ 255 ∷ 255 ∷ 255 ∷ 255 ∷ 255 ∷ 255 ∷ 255 ∷ 255 ∷ 28 ∷ 0 ∷ 0 ∷ 0 ∷ []

-- one whose highest bytes come first
high_section : List ℕ
high_section = 10 ∷ 13 ∷ 13 ∷ 10 ∷ 0 ∷ 0 ∷ 0 ∷ 28 ∷ 0x1a ∷ 0x2b ∷ 0x3c ∷ 0x4d ∷ 0 ∷ 1 ∷ 0 ∷ 0 ∷ 255 ∷ 255 ∷ 255 ∷ 255 ∷ 255 ∷ 255 ∷ 255 ∷ 255 ∷ 0 ∷ 0 ∷ 0 ∷ 28 ∷ []

-- an interface of this link type, with times in nanoseconds and a snap length of three
low_interface : ℕ → List ℕ
low_interface link = 1 ∷ 0 ∷ 0 ∷ 0 ∷ 32 ∷ 0 ∷ 0 ∷ 0 ∷ link ∷ 0 ∷ 0 ∷ 0 ∷ 3 ∷ 0 ∷ 0 ∷ 0 ∷ 9 ∷ 0 ∷ 1 ∷ 0 ∷ 9 ∷ 0 ∷ 0 ∷ 0 ∷ 0 ∷ 0 ∷ 0 ∷ 0 ∷ 32 ∷ 0 ∷ 0 ∷ 0 ∷ []

-- one without options, highest bytes first
high_interface : List ℕ
high_interface = 0 ∷ 0 ∷ 0 ∷ 1 ∷ 0 ∷ 0 ∷ 0 ∷ 20 ∷ 0 ∷ 1 ∷ 0 ∷ 0 ∷ 0 ∷ 0 ∷ 0 ∷ 0 ∷ 0 ∷ 0 ∷ 0 ∷ 20 ∷ []

-- a packet of five bytes of a frame of 60, at 258 ticks
low_packet : List ℕ
low_packet = 6 ∷ 0 ∷ 0 ∷ 0 ∷ 40 ∷ 0 ∷ 0 ∷ 0 ∷ 0 ∷ 0 ∷ 0 ∷ 0 ∷ 0 ∷ 0 ∷ 0 ∷ 0 ∷ 2 ∷ 1 ∷ 0 ∷ 0 ∷ 5 ∷ 0 ∷ 0 ∷ 0 ∷ 60 ∷ 0 ∷ 0 ∷ 0 ∷ 1 ∷ 2 ∷ 3 ∷ 4 ∷ 5 ∷ 0 ∷ 0 ∷ 0 ∷ 40 ∷ 0 ∷ 0 ∷ 0 ∷ []

-- a simple packet of a frame of four bytes
low_simple : List ℕ
low_simple = 3 ∷ 0 ∷ 0 ∷ 0 ∷ 20 ∷ 0 ∷ 0 ∷ 0 ∷ 4 ∷ 0 ∷ 0 ∷ 0 ∷ 9 ∷ 8 ∷ 7 ∷ 0 ∷ 20 ∷ 0 ∷ 0 ∷ 0 ∷ []

-- an obsolete packet of one byte at 3 ticks, highest bytes first
high_obsolete : List ℕ
high_obsolete = 0 ∷ 0 ∷ 0 ∷ 2 ∷ 0 ∷ 0 ∷ 0 ∷ 36 ∷ 0 ∷ 0 ∷ 0 ∷ 7 ∷ 0 ∷ 0 ∷ 0 ∷ 0 ∷ 0 ∷ 0 ∷ 0 ∷ 3 ∷ 0 ∷ 0 ∷ 0 ∷ 1 ∷ 0 ∷ 0 ∷ 0 ∷ 1 ∷ 6 ∷ 0 ∷ 0 ∷ 0 ∷ 0 ∷ 0 ∷ 0 ∷ 36 ∷ []

-- a simple packet stores no more than the snap length, and has the time of the packet before
low_first : reading_of (low_section ++ low_interface 1 ++ low_packet ++ low_simple) ≡ record {
  packets =
      record { interface = 0; time = 258; original = 60; bytes = 1 ∷ 2 ∷ 3 ∷ 4 ∷ 5 ∷ [] }
      ∷ record { interface = 0; time = 258; original = 4; bytes = 9 ∷ 8 ∷ 7 ∷ [] } ∷ [];
  fault = None;
}
unfolding reading_of opened reading_at step_of whole_length order_of_block number_in section_of effect_of interface_of options_of first_option behind_option enhanced_of timed_of stored_of simple_of nanoseconds_in moved_by low_section low_interface low_packet low_simple
low_first = refl

-- a later section has its own order, and none of the interfaces before it
two_sections : reading_of (low_section ++ low_interface 1 ++ low_packet ++ high_section ++ high_interface ++ high_obsolete ++ low_section ++ low_packet) ≡ record {
  packets =
      record { interface = 0; time = 258; original = 60; bytes = 1 ∷ 2 ∷ 3 ∷ 4 ∷ 5 ∷ [] }
      ∷ record { interface = 0; time = 3000; original = 1; bytes = 6 ∷ [] } ∷ [];
  fault = Some (Torn 7);
}
unfolding reading_of opened reading_at step_of whole_length order_of_block number_in section_of effect_of interface_of options_of first_option behind_option enhanced_of obsolete_of timed_of stored_of nanoseconds_in moved_by low_section low_interface low_packet high_section high_interface high_obsolete
two_sections = refl

without_blocks : reading_of low_section ≡ nothing_left
unfolding reading_of opened reading_at whole_length order_of_block number_in section_of low_section
without_blocks = refl

cut_header : reading_of (take 27 low_section) ≡ stopped Header
unfolding reading_of opened whole_length order_of_block number_in low_section
cut_header = refl

other_link : reading_of (low_section ++ low_interface 113 ++ low_packet) ≡ stopped (Link 113)
unfolding reading_of opened reading_at step_of whole_length order_of_block number_in section_of effect_of interface_of options_of first_option behind_option enhanced_of timed_of low_section low_interface low_packet
other_link = refl

-- a time before the epoch is 0, and one beyond 64 bits is the greatest of these
before_the_epoch : moved_by (2 ^ 64 - 1) (nanoseconds_in 999999 6) ≡ 0
unfolding moved_by nanoseconds_in
before_the_epoch = refl

beyond : moved_by (2 ^ 63 - 1) (nanoseconds_in 5 9) ≡ 2 ^ 64 - 1
unfolding moved_by nanoseconds_in
beyond = refl
