-- The ports: one for each number of 16 bits.
use Rattle.std.specs.Prelude.{ℕ}

-- how many there are
abbrev pub port_count : ℕ
port_count = 65536
