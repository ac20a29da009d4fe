-- What a replay puts into a room.
use Rattle.std.specs.Prelude.{◌≡◌, ◌⊎◌, ℕ, suc, ℤ, pos, List, Option, Some, None, length}
use Rattle.script_replay.specs.Answers.{answers, before_bad, script_of}
use Rattle.onu_cell.specs.Numbers.{bad_line, no_memory}
use Rattle.onu_texts.specs.Room.{fitting, room_with}

-- by how many lines stand before the first bad one: the number of a replay, and the line that it names
abbrev pub replay_number : Option ℕ → ℤ
replay_number None = pos 0
replay_number (Some before) = bad_line

abbrev pub replay_line : Option ℕ → ℕ
replay_line None = 0
replay_line (Some before) = suc before

-- the answers up to the first bad line are put into the room
pub record IsReplayed (script room after : List ℕ) (number : ℤ) (written line : ℕ) : Type 0 where
  pub answers_by : number ≡ fitting (replay_number (before_bad (script_of script))) (answers script) room
  pub leaves : after ≡ room_with (answers script) room
  pub has : written ≡ length (answers script)
  pub names : line ≡ replay_line (before_bad (script_of script))

-- a request for memory was refused
pub record IsRefused (room after : List ℕ) (number : ℤ) (written line : ℕ) : Type 0 where
  pub answers_by : number ≡ no_memory
  pub leaves : after ≡ room
  pub has : written ≡ 0
  pub names : line ≡ 0

abbrev pub ReplaysInto : List ℕ → List ℕ → List ℕ → ℤ → ℕ → ℕ → Type 0
ReplaysInto script room after number written line = IsReplayed script room after number written line ⊎ IsRefused room after number written line
