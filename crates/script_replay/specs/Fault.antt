-- The numbers of the faults of a replay, and the status with which the program ends.
use Rattle.std.specs.Prelude.{ℕ}
use Rattle.script_replay.specs.declared.fault.ReplayFault.{ReplayFault}
use Rattle.script_replay.specs.declared.fault.ReplayFault.TheVariants.{BadLine, Read, Write, NoMemory}

abbrev pub number_of : ReplayFault → ℕ
number_of (BadLine n) = 1
number_of (Read n) = 2
number_of Write = 3
number_of NoMemory = 4

-- 2 for a bad line, else 1
abbrev pub status_of : ReplayFault → ℕ
status_of (BadLine n) = 2
status_of (Read n) = 1
status_of Write = 1
status_of NoMemory = 1
