-- Times in nanoseconds.
use Rattle.std.specs.Prelude.{ℕ, ◌+◌, ◌-◌, ◌*◌, ◌/◌, ◌^◌, if◌then◌else◌, nat_lt, min}

-- the ticks of a second, by the byte of if_tsresol: 10 to its lower bits, or 2 to these where the highest is set
abbrev pub ticks_per_second : ℕ → ℕ
ticks_per_second resolution = if nat_lt resolution 128 then 10 ^ resolution else 2 ^ (resolution - 128)

-- the nanoseconds that so many ticks are, without their fraction
unfoldable pub nanoseconds_in : ℕ → ℕ → ℕ
nanoseconds_in ticks resolution = ticks * 10 ^ 9 / ticks_per_second resolution

-- Nanoseconds moved by an offset in seconds, which is two's complement of 64 bits: 0 where that is before the epoch, and the greatest
-- number of 64 bits where it is beyond.
unfoldable pub moved_by : ℕ → ℕ → ℕ
moved_by offset since =
    min (2 ^ 64 - 1) (if nat_lt offset (2 ^ 63) then since + offset * 10 ^ 9 else since - (2 ^ 64 - offset) * 10 ^ 9)

-- the nanoseconds since the epoch at which an interface of this resolution and offset counts these ticks
abbrev pub nanoseconds_of : ℕ → ℕ → ℕ → ℕ
nanoseconds_of resolution offset ticks = moved_by offset (nanoseconds_in ticks resolution)
