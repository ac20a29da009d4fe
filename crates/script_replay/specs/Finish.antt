-- What the end of a script leaves.
use Rattle.std.specs.Prelude.{◌≡◌, ◌+◌, ℕ, List, Option, Some, None, Result, Ok, Err, map}
use Rattle.std.specs.Io.KnownBytes.{Appends, Keeps}
use Rattle.mib_upload.specs.Upload.{DeskState}
use Rattle.script_lines.specs.Line.{Asked, asked_by}
use Rattle.script_lines.specs.Text.{last_line}
use Rattle.text_writing.specs.Written.{AppendsPart}
use Rattle.script_replay.specs.Answers.{answers_from, before_bad}
use Rattle.script_replay.specs.declared.fault.ReplayFault.{ReplayFault}
use Rattle.script_replay.specs.declared.fault.ReplayFault.TheVariants.{BadLine, Read, Write, NoMemory}

-- what the bytes behind the last line feed ask for
abbrev pub last_asked : List ℕ → List (Option Asked)
last_asked rest = map asked_by (last_line rest)

-- what a writer holds before and after the last line is answered, by how that ended, where so many lines stand before it
abbrev pub Finishes : DeskState → List ℕ → ℕ → Result (Unit {0}) ReplayFault → Option (List ℕ) → Option (List ℕ) → Type 0
Finishes e rest lines (Ok done) before after = (before_bad (last_asked rest) ≡ None) × Appends before after (answers_from e (last_asked rest))
Finishes e rest lines (Err (BadLine n)) before after = (n ≡ lines + 1) × (before_bad (last_asked rest) ≡ Some 0) × Keeps before after
Finishes e rest lines (Err Write) before after = AppendsPart before after (answers_from e (last_asked rest))
Finishes e rest lines (Err (Read n)) before after = ⊥
Finishes e rest lines (Err NoMemory) before after = ⊥
