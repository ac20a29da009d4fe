-- How an explanation ends.
use Rattle.std.specs.Prelude.{◌≡◌, Bool, true, false, List, [], ◌∷◌, ◌++◌}
use Rattle.std.specs.List.{list_any}
use Rattle.frame_meaning.specs.declared.verdict.Verdict.{Verdict}
use Rattle.explain.specs.declared.step.Step.{Step}
use Rattle.explain.specs.declared.step.Step.TheVariants as step

abbrev pub is_verdict : Step → Bool
is_verdict (step.Verdict verdict) = true
is_verdict _ = false

-- the verdict is the last step, and the only verdict
pub record EndsWith (verdict : Verdict) (steps : List Step) : Type 0 where
  pub before : List Step
  pub last : steps ≡ before ++ step.Verdict verdict ∷ []
  pub only : list_any is_verdict before ≡ false
