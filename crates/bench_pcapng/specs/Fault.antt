-- The faults of a capture, and their numbers.
use Rattle.std.specs.Prelude.{ℕ}
use Rattle.bench_pcapng.specs.declared.fault.BlockFault.{BlockFault}
use Rattle.bench_pcapng.specs.declared.fault.BlockFault.TheVariants as blocks
use Rattle.bench_pcapng.specs.declared.fault.PcapngFault.{PcapngFault}
use Rattle.bench_pcapng.specs.declared.fault.PcapngFault.TheVariants.{Header, Link, Torn, TooLong, NoMemory}

abbrev pub number_of_fault : PcapngFault → ℕ
number_of_fault Header = 2
number_of_fault (Link link) = 3
number_of_fault (Torn n) = 4
number_of_fault (TooLong n) = 5
number_of_fault NoMemory = 6

-- the fault of a capture whose block of this number has one
abbrev pub at_block : ℕ → BlockFault → PcapngFault
at_block n blocks.Torn = Torn n
at_block n blocks.TooLong = TooLong n
at_block n (blocks.Link link) = Link link
