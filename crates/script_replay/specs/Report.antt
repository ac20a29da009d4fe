-- The words and the status with which a replay ends.
use Rattle.std.specs.Prelude.{ℕ, List, [], Result, Ok, Err}
use Rattle.text_writing.specs.FaultWords.{bad_line_words, no_memory_words, read_failed_words, write_failed_words}
use Rattle.script_replay.specs.declared.fault.ReplayFault.{ReplayFault}
use Rattle.script_replay.specs.declared.fault.ReplayFault.TheVariants.{BadLine, Read, Write, NoMemory}
use Rattle.script_replay.specs.Fault.{status_of}

abbrev pub words_of : ReplayFault → List ℕ
words_of (BadLine n) = bad_line_words n
words_of (Read n) = read_failed_words
words_of Write = write_failed_words
words_of NoMemory = no_memory_words

-- nothing where there was no fault
abbrev pub words_at : Result (Unit {0}) ReplayFault → List ℕ
words_at (Ok done) = []
words_at (Err fault) = words_of fault

-- 0 where there was no fault
abbrev pub status_at : Result (Unit {0}) ReplayFault → ℕ
status_at (Ok done) = 0
status_at (Err fault) = status_of fault
