-- What the words of a line say.
use Rattle.std.specs.Prelude.{ℕ, ◌+◌, ◌-◌, List, Option, Some, None, if◌then◌else◌, ◌==◌, nat_lt, nat_eq, length, position, take, drop, codes}
use Rattle.std.specs.List.{ends_with}
use Rattle.std.specs.Option.{option_and_then, option_map}
use Rattle.std.specs.Str.{bytes_eq}
use Rattle.script_lines.specs.Line.{decimal_of, port_of, spelled_bytes}
use Rattle.bench_history.specs.declared.extent.Extent.{Extent}
use Rattle.bench_history.specs.declared.extent.Extent.TheVariants.{Whole, Front}
use Rattle.bench_history.specs.declared.gem.SeenGem.{SeenGem}
use Rattle.bench_history.specs.declared.gem.SeenGem.TheVariants.{Port, Any}

-- a number of 32 bits in one to ten decimal digits
abbrev pub number_of : List ℕ → Option ℕ
number_of digits = option_and_then (λ n. if nat_lt n 4294967296 then Some n else None) (decimal_of 10 digits)

-- the GEM port of a frame that left, by its number; or `any`, where it wasn't seen
abbrev pub gem_of : List ℕ → Option SeenGem
gem_of word = if bytes_eq word (codes "any") then Some Any else option_map Port (port_of word)

-- what the word in front of the first space names, and what stands behind that
abbrev pub numbered : {A : Type 0} → (List ℕ → Option A) → List ℕ → Option (A × List ℕ)
numbered number parts =
    option_and_then (λ space. option_map (λ n. (n, drop (space + 1) parts)) (number (take space parts))) (position (λ b. b == 32) parts)

-- `HEX`: all bytes of a frame; or `HEX..`: its first bytes
abbrev pub seen_bytes : List ℕ → Option (Extent × List ℕ)
seen_bytes digits =
    if ends_with nat_eq digits (codes "..") then option_map (λ bytes. (Front, bytes)) (spelled_bytes (take (length digits - 2) digits))
    else option_map (λ bytes. (Whole, bytes)) (spelled_bytes digits)
