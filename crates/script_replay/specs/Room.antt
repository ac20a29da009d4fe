-- How many bytes a replay has room for.
use Rattle.std.specs.Prelude.{ℕ}

-- the 20,000 of a line that is begun, and the 65,536 that a read is given room for
abbrev pub text_room : ℕ
text_room = 85536
