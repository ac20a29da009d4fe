-- What a writer holds after a failure.
use Rattle.std.specs.Prelude.{ℕ, ◌≤◌, List, take, Option, length}
use Rattle.std.specs.Io.KnownBytes.{Appends}

-- the known bytes grow by a front of bs
abbrev pub AppendsPart : Option (List ℕ) → Option (List ℕ) → List ℕ → Type 0
AppendsPart old new bs = (n : ℕ) × (n ≤ length bs) × Appends old new (take n bs)
