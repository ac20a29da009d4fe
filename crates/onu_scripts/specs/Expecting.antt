-- What is found of expectations after a trace, in a room.
use Rattle.std.specs.Prelude.{◌≡◌, ◌≤◌, ◌⊎◌, ⊤, ℕ, ℤ, pos, nat_lt, if◌then◌else◌, List, Option, Some, None}
use Rattle.script_trace.specs.Script.{first_bad}
use Rattle.onu_cell.specs.Numbers.{bad_line}
use Rattle.onu_texts.specs.Room.{IsWrittenUpTo}
use Rattle.onu_scripts.specs.Comparing.{IsBackward, ReadsInto}
use Rattle.onu_scripts.specs.Making.{MakesInto}

-- the line that a number stands for, behind which expectations have to hold, and by each version from there on; or none, where it is that of a
-- trace's end: then by the last version alone
abbrev pub line_in : ℕ → Option ℕ
line_in number = if nat_lt number 18446744073709551615 then Some number else None

-- what is found stands in a room, or what is wrong with the words of the expectations does
abbrev pub TellsInto : List ℕ → List ℕ → ℤ → ℕ → Type 0
TellsInto room after result written = MakesInto room after result written ⊎ ((result ≡ pos 2) × IsWrittenUpTo written room after)

-- no line is bad that is read, and the words of the expectations have mistakes, which stand in the room
pub record HasMistakes (bad : Option ℕ) (room after : List ℕ) (result : ℤ) (written line : ℕ) : Type 0 where
  pub good : bad ≡ None
  pub number : result ≡ pos 2
  pub names : line ≡ 0
  pub put : IsWrittenUpTo written room after

-- the line behind which expectations have to hold isn't behind the last one that is read, where one is named
abbrev pub IsInOrder : Option ℕ → ℕ → Type 0
IsInOrder None until = ⊤
IsInOrder (Some from) until = from ≤ until

-- what is found of expectations after a trace, whose first bad line this is: which expectations words say, and so whether each holds, is tested,
-- and nothing of it is said here
abbrev pub ChecksInto : Option ℕ → List ℕ → List ℕ → ℤ → ℕ → ℕ → Type 0
ChecksInto bad room after result written line =
    ReadsInto bad_line bad (λ said. ⊤) room after result written line ⊎ HasMistakes bad room after result written line

-- what is found of expectations up to a line of a trace, unless the line behind which they have to hold is behind that one
abbrev pub ExpectsInto : List ℕ → Option ℕ → ℕ → List ℕ → List ℕ → ℤ → ℕ → ℕ → ℕ → ℕ → Type 0
ExpectsInto trace from until room after result written_before written line_before line =
    ((behind : ℕ) × (from ≡ Some behind) × IsBackward behind until room after result written_before written line_before line)
    ⊎ (IsInOrder from until × ChecksInto (first_bad (Some until) trace) room after result written line)
