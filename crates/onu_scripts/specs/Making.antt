-- What is made of words or of a script, in a room.
use Rattle.std.specs.Prelude.{◌≡◌, ◌<◌, ◌⊎◌, ℕ, ℤ, pos, Bool, if◌then◌else◌, List, length}
use Rattle.onu_cell.specs.Numbers.{no_memory, small}
use Rattle.onu_texts.specs.Room.{IsWrittenUpTo, Refuses}

-- the number of what is made: what was asked for stands in the room, or what is wrong stands there; or the room is too small, or a
-- request for memory was refused
abbrev pub IsMakeNumber : ℤ → Type 0
IsMakeNumber number = (number ≡ pos 0) ⊎ (number ≡ pos 1) ⊎ (number ≡ small) ⊎ (number ≡ no_memory)

-- the number of a text that is put into the room, by what it says
abbrev pub made_number : Bool → ℤ
made_number is_one = if is_one then pos 1 else pos 0

-- how many bytes are said to be made, by the number
abbrev pub SaysMade : ℤ → List ℕ → ℕ → Type 0
SaysMade number room written = (number ≡ no_memory → written ≡ 0) × (number ≡ small → length room < written)

-- what is made, in a room: its number and how many bytes it is said to have
pub record MakesInto (room after : List ℕ) (result : ℤ) (written : ℕ) : Type 0 where
  pub made : result ≡ pos 0 → IsWrittenUpTo written room after
  pub wrong : result ≡ pos 1 → IsWrittenUpTo written room after
  pub number : IsMakeNumber result
  pub says : SaysMade result room written
  pub kept : Refuses result → after ≡ room
