-- What an answer tells.
use Rattle.std.specs.Prelude.{Bool, true, false}

-- whether something holds
abbrev pub Tells : Bool → Type 0 → Type 0
Tells true P = P
Tells false P = P → ⊥
