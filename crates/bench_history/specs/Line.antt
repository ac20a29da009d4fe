-- What one line of a history says by itself.
use Rattle.std.specs.Prelude.{ℕ, List, Option, Some, None, if◌then◌else◌, ◌==◌, nat_lt, nat_eq, length, drop, codes}
use Rattle.std.specs.List.{starts_with}
use Rattle.std.specs.Option.{option_and_then, option_map}
use Rattle.std.specs.Str.{bytes_eq}
use Rattle.script_lines.specs.Line.{line_limit, port_of, spelled_bytes, without_cr}
use Rattle.bench_history.specs.Among.{one_of}
use Rattle.bench_history.specs.Words.{gem_of, number_of, numbered, seen_bytes}
use Rattle.bench_history.specs.declared.event.Event.{Event}
use Rattle.bench_history.specs.declared.event.Event.TheVariants.{Sent, Replied, Entered, Left, LeftOneOf, Strayed, Dropped, Lost, Waited, Ended, Nothing}

-- `PORT HEX`: a frame was sent into a port
abbrev pub entered_by : List ℕ → Option Event
entered_by parts = option_and_then (λ port. option_map (λ seen. Entered port.0 seen.0 seen.1) (seen_bytes port.1)) (numbered port_of parts)

-- `N GEM HEX`: a frame left by a GEM port
abbrev pub left_by : List ℕ → Option Event
left_by parts =
    option_and_then (λ number.
    option_and_then (λ gem.
    option_map (λ seen. Left gem.0 seen.0 number.0 seen.1) (seen_bytes gem.1))
    (numbered gem_of number.1)) (numbered number_of parts)

-- `GEM HEX`: a frame left by a GEM port that no open frame can be
abbrev pub strayed_by : List ℕ → Option Event
strayed_by parts = option_and_then (λ gem. option_map (λ seen. Strayed gem.0 seen.0 seen.1) (seen_bytes gem.1)) (numbered gem_of parts)

-- `GEM HEX N N ..`: a frame left by a GEM port, and is one of these
abbrev pub left_one_by : List ℕ → Option Event
left_one_by parts = option_and_then (λ gem. option_map (λ told. LeftOneOf gem.0 told.0 told.1) (one_of gem.1)) (numbered gem_of parts)

-- nothing behind the `w`: the replies seen so far are waited for; or a space and a number of replies
abbrev pub waited_by : List ℕ → Option Event
waited_by behind =
    if length behind == 0 then Some (Waited None)
    else (if starts_with nat_eq behind (codes " ") then option_map (λ n. Waited (Some n)) (number_of (drop 1 behind)) else None)

-- `d N`, `l N` and `e`
abbrev pub end_told : List ℕ → Option Event
end_told line =
    if starts_with nat_eq line (codes "d ") then option_map Dropped (number_of (drop 2 line))
    else (if starts_with nat_eq line (codes "l ") then option_map Lost (number_of (drop 2 line))
    else (if bytes_eq line (codes "e") then Some Ended else None))

-- `a GEM HEX N N ..` and `s GEM HEX`, or an end that wasn't seen
abbrev pub unsure_told : List ℕ → Option Event
unsure_told line =
    if starts_with nat_eq line (codes "a ") then left_one_by (drop 2 line)
    else (if starts_with nat_eq line (codes "s ") then strayed_by (drop 2 line) else end_told line)

-- `f PORT HEX` and `g N GEM HEX`, or of a frame that can't be told for sure
abbrev pub frame_told : List ℕ → Option Event
frame_told line =
    if starts_with nat_eq line (codes "f ") then entered_by (drop 2 line)
    else (if starts_with nat_eq line (codes "g ") then left_by (drop 2 line) else unsure_told line)

-- `o HEX`, `r HEX`, `w` and `w N`, or of a frame
abbrev pub told : List ℕ → Option Event
told line =
    if starts_with nat_eq line (codes "o ") then option_map Sent (spelled_bytes (drop 2 line))
    else (if starts_with nat_eq line (codes "r ") then option_map Replied (spelled_bytes (drop 2 line))
    else (if starts_with nat_eq line (codes "w") then waited_by (drop 1 line) else frame_told line))

-- an empty line says nothing, and so does a remark, which begins with `#`
abbrev pub content_told : List ℕ → Option Event
content_told line =
    if length line == 0 then Some Nothing
    else (if starts_with nat_eq line (codes "#") then Some Nothing else told line)

-- what a line says, None where it is bad; one over 20,000 bytes is
unfoldable pub event_of : List ℕ → Option Event
event_of line = if nat_lt line_limit (length line) then None else content_told (without_cr line)
