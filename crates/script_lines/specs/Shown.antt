-- A line as the program holds it: its bytes lie in a buffer.
use Rattle.std.specs.Prelude.{ℕ, ◌+◌, ◌*◌, ◌≤◌, List, Option, Some, option_map, length}
use Rattle.script_lines.specs.Line.{Asked, spelled_bytes}
use Rattle.script_lines.specs.Line as asked
use Rattle.script_lines.specs.declared.line.Line.{Line}
use Rattle.script_lines.specs.declared.line.Line.TheVariants.{Message, Frame, Nothing}
use Rattle.script_lines.specs.declared.line.Parts.{Parts}
use Rattle.script_lines.specs.declared.line.Parts.TheVariants as parts

abbrev pub shown : Line → Asked
shown (Message bytes) = asked.Message bytes.now
shown (Frame port bytes) = asked.Frame port bytes.now
shown Nothing = asked.Nothing

-- the digits of what a line of n bytes spells stand behind two bytes or four
abbrev pub IsSpelledWithin : ℕ → Line → Type 0
IsSpelledWithin n (Message bytes) = 2 * length bytes.now + 2 ≤ n
IsSpelledWithin n (Frame port bytes) = 2 * length bytes.now + 4 ≤ n
IsSpelledWithin n Nothing = Unit {0}

-- a frame at a port, by its digits, which may spell no bytes
abbrev pub frame_in : ℕ → List ℕ → Option Asked
frame_in port digits = option_map (asked.Frame port) (spelled_bytes digits)

-- what the parts of a line ask for, by their digits, which may spell no bytes
abbrev pub asked_in : Parts → Option Asked
asked_in (parts.Message digits) = option_map asked.Message (spelled_bytes digits.now)
asked_in (parts.Frame port digits) = frame_in port digits.now
asked_in parts.Nothing = Some asked.Nothing

-- the digits in a line of n bytes stand behind two bytes or four
abbrev pub AreDigitsWithin : ℕ → Parts → Type 0
AreDigitsWithin n (parts.Message digits) = length digits.now + 2 ≤ n
AreDigitsWithin n (parts.Frame port digits) = length digits.now + 4 ≤ n
AreDigitsWithin n parts.Nothing = Unit {0}
