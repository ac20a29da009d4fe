-- The numbers of the faults of a run, and the status with which the program ends.
use Rattle.std.specs.Prelude.{ℕ}
use Rattle.run_capture.specs.declared.fault.RunFault.{RunFault}
use Rattle.run_capture.specs.declared.fault.RunFault.TheVariants.{Settings, BadTrace, Capture, Unlisted, NoMemory, Refused, CountFull, Write}

abbrev pub number_of_fault : RunFault → ℕ
number_of_fault Settings = 1
number_of_fault (BadTrace n) = 2
number_of_fault (Capture fault) = 3
number_of_fault NoMemory = 4
number_of_fault Refused = 5
number_of_fault CountFull = 6
number_of_fault Write = 7
number_of_fault Unlisted = 8

-- 2 for a bad trace line, a bad capture or frames without a list, else 1
abbrev pub status_of_fault : RunFault → ℕ
status_of_fault Settings = 1
status_of_fault (BadTrace n) = 2
status_of_fault (Capture fault) = 2
status_of_fault Unlisted = 2
status_of_fault NoMemory = 1
status_of_fault Refused = 1
status_of_fault CountFull = 1
status_of_fault Write = 1
