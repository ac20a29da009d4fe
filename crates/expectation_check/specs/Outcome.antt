-- What becomes of an expectation, of all frames.
use Rattle.std.specs.Prelude.{◌≡◌, ℕ}
use Rattle.mib_state.specs.Entities.{Entities}
use Rattle.frame_rows.specs.Class.{class_of}
use Rattle.frame_expectation.specs.declared.expectation.Expectation.{Expectation}
use Rattle.frame_expectation.specs.Check as check
use Rattle.expectation_check.specs.declared.checking.Outcome.{Outcome}
use Rattle.expectation_check.specs.declared.checking.Outcome.TheVariants.{Holds, Void, Fails}

-- it holds, it is void, or the frame fails it, and has the class that is shown
abbrev pub IsOutcome : Entities → Expectation → ℕ → Outcome → Type 0
IsOutcome e expected least Holds = check.Holds e expected least
IsOutcome e expected least Void = check.IsVoid e expected least
IsOutcome e expected least (Fails example) =
    check.Fails e expected least example.frame.items × (class_of e expected.port example.frame.items ≡ example.class)
