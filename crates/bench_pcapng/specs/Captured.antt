-- A packet of a capture.
use Rattle.std.specs.Prelude.{ℕ, List}

-- the number of its interface in the section, its time in nanoseconds since the epoch, how many bytes the frame had, and those of them
-- that are stored
pub record Captured : Type 0 where
  pub interface : ℕ
  pub time : ℕ
  pub original : ℕ
  pub bytes : List ℕ
