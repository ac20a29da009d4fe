-- The number, the words and the status with which a command that looks inside ends.
use Rattle.std.specs.Prelude.{ℕ, List, [], Result, Ok, Err}
use Rattle.text_writing.specs.declared.look_fault.LookFault.{LookFault}
use Rattle.text_writing.specs.declared.look_fault.LookFault.TheVariants.{BadLine, BadTrace, Read, Write, NoMemory}
use Rattle.text_writing.specs.declared.status.Status.{Status}
use Rattle.text_writing.specs.declared.status.Status.TheVariants.{Bad, Done, Failed}
use Rattle.text_writing.specs.FaultWords.{bad_line_words, bad_trace_words, no_memory_words, read_failed_words, write_failed_words}

abbrev pub number_of : LookFault → ℕ
number_of (BadLine n) = 1
number_of (BadTrace n) = 2
number_of Read = 3
number_of Write = 4
number_of NoMemory = 5

abbrev pub words_of : LookFault → List ℕ
words_of (BadLine n) = bad_line_words n
words_of (BadTrace n) = bad_trace_words n
words_of Read = read_failed_words
words_of Write = write_failed_words
words_of NoMemory = no_memory_words

-- nothing where there was no fault
abbrev pub words_at : Result (Unit {0}) LookFault → List ℕ
words_at (Ok done) = []
words_at (Err fault) = words_of fault

-- bad for a bad line, else failed
abbrev pub status_of : LookFault → Status
status_of (BadLine n) = Bad
status_of (BadTrace n) = Bad
status_of Read = Failed
status_of Write = Failed
status_of NoMemory = Failed

-- done where there was no fault
abbrev pub status_at : Result (Unit {0}) LookFault → Status
status_at (Ok done) = Done
status_at (Err fault) = status_of fault
