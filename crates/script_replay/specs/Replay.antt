-- What a replay of a known text leaves.
use Rattle.std.specs.Prelude.{◌≡◌, ◌≤◌, ◌⊎◌, ℕ, suc, List, Option, Some, None, Result, Ok, Err, length, map, take, drop, option_map}
use Rattle.std.specs.Io.KnownBytes.{Appends, IsAtEnd, Keeps}
use Rattle.mib_upload.specs.Upload.{start}
use Rattle.script_lines.specs.Line.{Asked, asked_by}
use Rattle.script_lines.specs.Text.{cut}
use Rattle.text_writing.specs.Written.{AppendsPart}
use Rattle.script_replay.specs.Answers.{answers, answers_from, before_bad, script_of}
use Rattle.script_replay.specs.declared.fault.ReplayFault.{ReplayFault}
use Rattle.script_replay.specs.declared.fault.ReplayFault.TheVariants.{BadLine, Read, Write, NoMemory}

-- what the lines that a line feed ends ask for
abbrev pub ended_script : List ℕ → List (Option Asked)
ended_script text = map asked_by (cut text).ended

-- the whole text is read, no line is bad, and the answers are written
pub record IsAnswered (text : List ℕ) (left before after : Option (List ℕ)) : Type 0 where
  pub at_end : IsAtEnd left
  pub none_bad : before_bad (script_of text) ≡ None
  pub written : Appends before after (answers text)

-- line n is the first bad one, and the answers to the lines before it are written
pub record StopsAtLine (n : ℕ) (text : List ℕ) (before after : Option (List ℕ)) : Type 0 where
  pub first : option_map suc (before_bad (script_of text)) ≡ Some n
  pub written : Appends before after (answers text)

-- n bytes are read; no line that ends in them is bad, and the answers to these lines are written
pub record StopsAtRead (n : ℕ) (text : List ℕ) (left before after : Option (List ℕ)) : Type 0 where
  pub within : n ≤ length text
  pub read : left ≡ Some (drop n text)
  pub none_bad : before_bad (ended_script (take n text)) ≡ None
  pub written : Appends before after (answers_from start (ended_script (take n text)))

-- n bytes are read, and a front of the answers to the lines that end in them is written
pub record StopsAtWrite (n : ℕ) (text : List ℕ) (left before after : Option (List ℕ)) : Type 0 where
  pub within : n ≤ length text
  pub read : left ≡ Some (drop n text)
  pub written : AppendsPart before after (answers_from start (ended_script (take n text)))

-- the whole text is read, and a front of the answers to its lines is written, of which the last needs no line feed
pub record StopsAtLastWrite (text : List ℕ) (left before after : Option (List ℕ)) : Type 0 where
  pub at_end : IsAtEnd left
  pub written : AppendsPart before after (answers text)

-- what is left of the text, and what a writer holds before and after, by how the replay ended
abbrev pub Replays : List ℕ → Result (Unit {0}) ReplayFault → Option (List ℕ) → Option (List ℕ) → Option (List ℕ) → Type 0
Replays text (Ok done) left before after = IsAnswered text left before after
Replays text (Err (BadLine n)) left before after = StopsAtLine n text before after
Replays text (Err (Read n)) left before after = StopsAtRead n text left before after
Replays text (Err Write) left before after = ((n : ℕ) × StopsAtWrite n text left before after) ⊎ StopsAtLastWrite text left before after
Replays text (Err NoMemory) left before after = (left ≡ Some text) × Keeps before after
