-- The numbers of the faults of a capture.
use Rattle.std.specs.Prelude.{ℕ}
use Rattle.capture.specs.declared.fault.CaptureFault.{CaptureFault}
use Rattle.capture.specs.declared.fault.CaptureFault.TheVariants.{Magic, Header, Link, Torn, TooLong}

abbrev pub number_of_fault : CaptureFault → ℕ
number_of_fault Magic = 1
number_of_fault Header = 2
number_of_fault (Link link) = 3
number_of_fault (Torn n) = 4
number_of_fault (TooLong n) = 5
