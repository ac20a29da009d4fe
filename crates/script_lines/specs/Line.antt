-- What a line of a script asks for.
use Rattle.std.specs.Prelude.{ℕ, ◌+◌, ◌-◌, ◌*◌, ◌&&◌, ◌||◌, List, [], ◌∷◌, Option, Some, None, if◌then◌else◌, ◌==◌, nat_le, nat_lt, nat_eq, length, position, take, drop, slice_index, codes}
use Rattle.std.specs.List.{starts_with}
use Rattle.std.specs.Option.{option_and_then, option_map}
use Rattle.std.specs.Result.{result_ok}
use Rattle.hex.specs.Hex.{decode_of}

-- the bytes of a message, a port and the bytes of a frame, or nothing, as an empty line or a comment
pub data Asked : Type 0 where
  Message : List ℕ → Asked
  Frame : ℕ → List ℕ → Asked
  Nothing : Asked

-- how many bytes a line may have, with what ends it but its line feed
abbrev pub line_limit : ℕ
line_limit = 20000

-- one CR at the end is dropped
abbrev pub without_cr : List ℕ → List ℕ
without_cr line = let last = length line - 1 in if slice_index line last == 13 then take last line else line

-- what hexadecimal digits spell: an even number of them, of either case, or none
abbrev pub spelled_bytes : List ℕ → Option (List ℕ)
spelled_bytes digits = result_ok (decode_of digits)

-- the number that decimal digits spell behind a number
abbrev pub number_from : ℕ → List ℕ → Option ℕ
number_from n [] = Some n
number_from n (digit ∷ digits) = if nat_le 48 digit && nat_le digit 57 then number_from (10 * n + (digit - 48)) digits else None

-- what decimal digits spell, if there are some and at most so many
abbrev pub decimal_of : ℕ → List ℕ → Option ℕ
decimal_of most digits = if length digits == 0 || nat_lt most (length digits) then None else number_from 0 digits

-- a port in one to five decimal digits
abbrev pub port_of : List ℕ → Option ℕ
port_of digits = option_and_then (λ port. if nat_lt port 65536 then Some port else None) (decimal_of 5 digits)

-- a port, and behind the first space the bytes of a frame
abbrev pub frame_asked_by : List ℕ → Option Asked
frame_asked_by parts =
    option_and_then (λ space.
    option_and_then (λ port.
    option_map (Frame port) (spelled_bytes (drop (space + 1) parts)))
    (port_of (take space parts))) (position (λ b. b == 32) parts)

-- a message begins with `o` and a space, a frame with `f` and a space
abbrev pub letter_asked_by : List ℕ → Option Asked
letter_asked_by line =
    if starts_with nat_eq line (codes "o ") then option_map Message (spelled_bytes (drop 2 line))
    else (if starts_with nat_eq line (codes "f ") then frame_asked_by (drop 2 line) else None)

-- an empty line asks for nothing, and so does a comment, which begins with `#`
abbrev pub content_of : List ℕ → Option Asked
content_of line =
    if length line == 0 then Some Nothing
    else (if starts_with nat_eq line (codes "#") then Some Nothing else letter_asked_by line)

-- what a line asks for, None where it is bad; one over 20,000 bytes is
unfoldable pub asked_by : List ℕ → Option Asked
asked_by line = if nat_lt line_limit (length line) then None else content_of (without_cr line)
