-- Whether something stands in a cell.
use Rattle.std.specs.Prelude.{Option, Some, None, Bool, true, false}

abbrev pub is_full : {X : Type 0} → Option X → Bool
is_full None = false
is_full (Some x) = true
