-- What is said of expectations after a trace: that each holds, or that one doesn't.
use Rattle.std.specs.Prelude.{ℕ, Bool, true, false, List, All, Contains, Option, Some, None}
use Rattle.mib_state.specs.Entities.{Entities}
use Rattle.frame_expectation.specs.declared.expectation.Expectation.{Expectation}
use Rattle.frame_expectation.specs.Check.{Holds}
use Rattle.text_expectations.specs.declared.reading.ExpectedLine.{ExpectedLine}

-- an expectation holds, of every frame of at least so many bytes, or it doesn't
abbrev pub IsSaid : Entities → ℕ → Expectation → Bool → Type 0
IsSaid e least expected true = Holds e expected least
IsSaid e least expected false = ¬ Holds e expected least

-- and of some: each holds, or one doesn't
abbrev pub IsSaidOf : Entities → ℕ → List ExpectedLine → Bool → Type 0
IsSaidOf e least lines true = All (λ (line : ExpectedLine). Holds e line.expectation least) lines
IsSaidOf e least lines false = (line : ExpectedLine) × Contains lines line × ¬ Holds e line.expectation least

-- that is said where the last version alone is looked at
abbrev pub IsSaidOfLast : Option ℕ → Entities → ℕ → List ExpectedLine → Bool → Type 0
IsSaidOfLast None e least lines said = IsSaidOf e least lines said
IsSaidOfLast (Some from) e least lines said = Unit {0}
