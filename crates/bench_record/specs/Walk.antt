-- What the walk over captured frames is given, and what it decides.
use Rattle.std.specs.Prelude.{ℕ, List, [], ◌∷◌, Option, Some, None, if◌then◌else◌}
use Rattle.bench_record.specs.Matching.{is_doubtful}
use Rattle.bench_record.specs.Moments as shown
use Rattle.bench_record.specs.declared.walk.Sourced as given

-- a captured frame and where it stands, as the program has it
abbrev pub sourced_shown : given.Sourced → shown.Sourced
sourced_shown at = record { source = at.source; frame = at.frame }

-- the one of some frames, where it is one and isn't doubtful
abbrev pub sure_of : List (List ℕ) → List ℕ → Option ℕ
sure_of named [] = None
sure_of named (n ∷ []) = if is_doubtful named n then None else Some n
sure_of named (m ∷ n ∷ more) = None
