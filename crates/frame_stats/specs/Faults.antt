-- The numbers of the faults, and the book's fault for one of counting.
use Rattle.std.specs.Prelude.{ℕ}
use Rattle.frame_stats.specs.declared.fault.CountFault.{CountFault}
use Rattle.frame_stats.specs.declared.fault.CountFault.TheVariants as count
use Rattle.frame_stats.specs.declared.fault.StatFault.{StatFault}
use Rattle.frame_stats.specs.declared.fault.StatFault.TheVariants.{Lane, CountFull, NoMemory}

abbrev pub number_of_count_fault : CountFault → ℕ
number_of_count_fault count.CountFull = 1
number_of_count_fault count.NoMemory = 2

abbrev pub number_of_stat_fault : StatFault → ℕ
number_of_stat_fault Lane = 1
number_of_stat_fault CountFull = 2
number_of_stat_fault NoMemory = 3

abbrev pub stat_fault_of : CountFault → StatFault
stat_fault_of count.CountFull = CountFull
stat_fault_of count.NoMemory = NoMemory
