-- What is shown of what the messages of a trace leave, in a room.
use Rattle.std.specs.Prelude.{◌≡◌, ◌<◌, ◌⊎◌, ℕ, ℤ, pos, nat_lt, if◌then◌else◌, List, Option, Some, None, length}
use Rattle.script_trace.specs.Script.{first_bad}
use Rattle.onu_cell.specs.Numbers.{bad_line, no_memory, small}
use Rattle.onu_texts.specs.Room.{IsWrittenUpTo, Refuses}

-- the port that a number stands for, or none where it has more than 16 bits
abbrev pub port_in : ℕ → Option ℕ
port_in number = if nat_lt number 65536 then Some number else None

-- the number of what is shown: it stands in the room; or the room is too small, a request for memory was refused, or a line is bad
abbrev pub IsLookNumber : ℤ → Type 0
IsLookNumber number = (number ≡ pos 0) ⊎ (number ≡ small) ⊎ (number ≡ no_memory) ⊎ (number ≡ bad_line)

-- how many bytes are said to be shown, by the number
abbrev pub SaysShown : ℤ → List ℕ → ℕ → Type 0
SaysShown number room written = (number ≡ no_memory → written ≡ 0) × (number ≡ bad_line → written ≡ 0) × (number ≡ small → length room < written)

-- no line of a trace is bad, and none is named
abbrev pub IsGoodTrace : List ℕ → ℕ → Type 0
IsGoodTrace trace line = (first_bad None trace ≡ None) × (line ≡ 0)

-- what is shown after a trace, in a room: its number, how many bytes it is said to have, and the line that it names
pub record LooksInto (trace room after : List ℕ) (result : ℤ) (written line : ℕ) : Type 0 where
  pub shown : result ≡ pos 0 → IsGoodTrace trace line
  pub longer : result ≡ small → IsGoodTrace trace line
  pub bad : result ≡ bad_line → first_bad None trace ≡ Some line
  pub none : result ≡ no_memory → line ≡ 0
  pub ok : result ≡ pos 0 → IsWrittenUpTo written room after
  pub number : IsLookNumber result
  pub says : SaysShown result room written
  pub kept : Refuses result → after ≡ room
