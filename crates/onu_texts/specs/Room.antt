-- A text in a room for it.
use Rattle.std.specs.Prelude.{◌≡◌, ◌≤◌, ◌<◌, ◌⊎◌, ℕ, ℤ, pos, negsuc, Bool, if◌then◌else◌, nat_le, List, ◌++◌, Option, None, length, drop}
use Rattle.onu_cell.specs.Numbers.{closed, no_memory, small}

abbrev pub fits : List ℕ → List ℕ → Bool
fits text room = nat_le (length text) (length room)

-- the text stands at the front of a room that it fits, and what stood behind stays; another room stays whole
abbrev pub room_with : List ℕ → List ℕ → List ℕ
room_with text room = if fits text room then text ++ drop (length text) room else room

-- what a call answers whose text may not fit
abbrev pub fitting : ℤ → List ℕ → List ℕ → ℤ
fitting number text room = if fits text room then number else small

-- a room after a call: as it was but for a front of so many bytes
pub record IsWrittenUpTo (written : ℕ) (room after : List ℕ) : Type 0 where
  pub within : written ≤ length room
  pub behind : drop written after ≡ drop written room

-- the number of an explanation: it stands in the room; or there is no unit, the room is too small, or a request for memory was refused
abbrev pub IsExplainNumber : ℤ → Type 0
IsExplainNumber number = (number ≡ pos 0) ⊎ (number ≡ closed) ⊎ (number ≡ small) ⊎ (number ≡ no_memory)

-- how many bytes an explanation is said to have, by the number: without a unit nothing is said
abbrev pub SaysExplained : ℤ → List ℕ → ℕ → ℕ → Type 0
SaysExplained number room before written =
    (number ≡ closed → written ≡ before) × (number ≡ no_memory → written ≡ 0) × (number ≡ small → length room < written)

-- the numbers of calls that leave the room as it was: the negative ones
abbrev pub Refuses : ℤ → Type 0
Refuses number = (n : ℕ) × (number ≡ negsuc n)

-- an explanation, for what a cell holds, in a room: its number and how many bytes it is said to have
pub record ExplainsInto {H : Type 0} (held : Option H) (room after : List ℕ) (result : ℤ) (before written : ℕ) : Type 0 where
  pub no_unit : held ≡ None → result ≡ closed
  pub ok : result ≡ pos 0 → IsWrittenUpTo written room after
  pub number : IsExplainNumber result
  pub says : SaysExplained result room before written
  pub kept : Refuses result → after ≡ room
