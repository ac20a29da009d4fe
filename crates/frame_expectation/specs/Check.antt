-- Whether an expectation holds, of all frames: a frame is any list of bytes, of at least so many.
use Rattle.std.specs.Prelude.{◌≡◌, ◌<◌, ◌≤◌, ◌^◌, ℕ, true, false, List, All, length}
use Rattle.mib_state.specs.Entities.{Entities}
use Rattle.frame_expectation.specs.declared.expectation.Expectation.{Expectation}
use Rattle.frame_expectation.specs.Expectation.{admits, meets}

-- a frame of at least so many bytes that the filter admits
pub record IsAdmitted (e : Entities) (expected : Expectation) (least : ℕ) (bytes : List ℕ) : Type 0 where
  pub bytes_fit : All (λ b. b < 2 ^ 8) bytes
  pub long : least ≤ length bytes
  pub admitted : admits e expected bytes ≡ true

-- some frame is admitted, and each that is meets the expectation
pub record Holds (e : Entities) (expected : Expectation) (least : ℕ) : Type 0 where
  pub some : (bytes : List ℕ) × IsAdmitted e expected least bytes
  pub each : (bytes : List ℕ) → IsAdmitted e expected least bytes → meets e expected bytes ≡ true

-- no frame is admitted
abbrev pub IsVoid : Entities → Expectation → ℕ → Type 0
IsVoid e expected least = (bytes : List ℕ) → ¬ IsAdmitted e expected least bytes

-- a frame is admitted and doesn't meet the expectation
pub record Fails (e : Entities) (expected : Expectation) (least : ℕ) (bytes : List ℕ) : Type 0 where
  pub admitted : IsAdmitted e expected least bytes
  pub unmet : meets e expected bytes ≡ false

-- ---- law

-- an expectation that holds isn't void, and no frame fails it; and none fails one that is void
pub record OutcomesExclude : Type 0 where
  pub not_void : (e : Entities) (expected : Expectation) (least : ℕ) → Holds e expected least → ¬ IsVoid e expected least
  pub not_failed : (e : Entities) (expected : Expectation) (least : ℕ) → Holds e expected least → (bytes : List ℕ) → ¬ Fails e expected least bytes
  pub none_fails : (e : Entities) (expected : Expectation) (least : ℕ) → IsVoid e expected least → (bytes : List ℕ) → ¬ Fails e expected least bytes
