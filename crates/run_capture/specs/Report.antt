-- The words and the status with which a run ends.
use Rattle.std.specs.Prelude.{ℕ, List, [], ◌∷◌, ◌++◌, Result, Ok, Err, codes}
use Rattle.std.specs.Fmt.{decimal}
use Rattle.capture.specs.declared.fault.CaptureFault.{CaptureFault}
use Rattle.capture.specs.declared.fault.CaptureFault.TheVariants.{Magic, Header, Link, Torn, TooLong}
use Rattle.capture.specs.Fault as capture
use Rattle.text_writing.specs.FaultWords.{bad_trace_words, no_memory_words, write_failed_words}
use Rattle.run_capture.specs.declared.fault.RunFault.{RunFault}
use Rattle.run_capture.specs.declared.fault.RunFault.TheVariants.{Settings, BadTrace, Capture, Unlisted, NoMemory, Refused, CountFull, Write}
use Rattle.run_capture.specs.Fault.{status_of_fault}

-- the number that a capture's fault has
abbrev pub place_words : CaptureFault → List ℕ
place_words Magic = []
place_words Header = []
place_words (Link link) = codes " at " ++ decimal link
place_words (Torn n) = codes " at " ++ decimal n
place_words (TooLong n) = codes " at " ++ decimal n

abbrev pub words_of : RunFault → List ℕ
words_of Settings = codes "wrong settings" ++ 10 ∷ []
words_of (BadTrace n) = bad_trace_words n
words_of (Capture fault) = codes "capture fault " ++ decimal (capture.number_of_fault fault) ++ place_words fault ++ 10 ∷ []
words_of Unlisted = codes "unlisted frames" ++ 10 ∷ []
words_of NoMemory = no_memory_words
words_of Refused = codes "refused" ++ 10 ∷ []
words_of CountFull = codes "counters are full" ++ 10 ∷ []
words_of Write = write_failed_words

-- nothing where there was no fault
abbrev pub words_at : Result (Unit {0}) RunFault → List ℕ
words_at (Ok done) = []
words_at (Err fault) = words_of fault

-- 0 where there was no fault
abbrev pub status_of : Result (Unit {0}) RunFault → ℕ
status_of (Ok done) = 0
status_of (Err fault) = status_of_fault fault
