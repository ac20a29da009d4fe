-- The bytes that an output holds.
use Rattle.std.specs.Prelude.{ℕ, List, Option, Some, None}

-- those of a writer that there is, where they are known; nothing is known of one that there isn't
abbrev pub known_in : {W : Type 0} → (W → Option (List ℕ)) → Option W → Option (List ℕ)
known_in contents None = None
known_in contents (Some writer) = contents writer
