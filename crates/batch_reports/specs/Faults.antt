-- The numbers of the faults.
use Rattle.std.specs.Prelude.{ℕ}
use Rattle.batch_reports.specs.declared.fault.BatchFault.{BatchFault}
use Rattle.batch_reports.specs.declared.fault.BatchFault.TheVariants.{TooMany, NoMemory, Stalled, CountFull}
use Rattle.batch_reports.specs.declared.fault.GatherFault.{GatherFault}
use Rattle.batch_reports.specs.declared.fault.GatherFault.TheVariants as gather

abbrev pub number_of_batch_fault : BatchFault → ℕ
number_of_batch_fault (TooMany frames) = 1
number_of_batch_fault NoMemory = 2
number_of_batch_fault Stalled = 3
number_of_batch_fault CountFull = 4

abbrev pub number_of_gather_fault : GatherFault → ℕ
number_of_gather_fault (gather.Double batch) = 1
number_of_gather_fault (gather.Stranger batch) = 2
number_of_gather_fault (gather.Missing batch) = 3
number_of_gather_fault gather.NoMemory = 4
number_of_gather_fault gather.CountFull = 5
