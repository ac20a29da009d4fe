-- The numbers by which calls from C answer that they did nothing, as numbers of 32 bits with a sign. A null pointer, -18, is answered
-- before any of these calls.
use Rattle.std.specs.Prelude.{ℤ, negsuc}

-- no unit stands in the cell: -16
abbrev pub closed : ℤ
closed = negsuc 15

-- a unit stands in the cell already: -17
abbrev pub already : ℤ
already = negsuc 16

-- the room is too small: -19
abbrev pub small : ℤ
small = negsuc 18

-- a request for memory was refused: -20
abbrev pub no_memory : ℤ
no_memory = negsuc 19

-- a line is bad: -21
abbrev pub bad_line : ℤ
bad_line = negsuc 20

-- a flag that has no meaning is set: -22
abbrev pub bad_flags : ℤ
bad_flags = negsuc 21

-- a line of the script before a history is bad: -23
abbrev pub bad_start : ℤ
bad_start = negsuc 22

-- a line of the trace after a change is bad: -24
abbrev pub bad_after : ℤ
bad_after = negsuc 23

-- a change is to begin behind the line where it ends: -25
abbrev pub backward : ℤ
backward = negsuc 24
