-- What is said of expectations, of one more at a time.
use Rattle.std.proofs.Common.{◌≡◌, ◌<◌, ◌+◌, ◌&&◌, ℕ, Bool, true, false, List, [], ◌∷◌, ◌++◌, get_or, take, length, sym, subst}
use Rattle.std.specs.Prelude.{All, Contains}
use Rattle.std.proofs.lemmas.List.{take_more}
use Rattle.std.proofs.lemmas.List.Elements.{All-more, Contains-append_left, Contains-push}
use Rattle.mib_state.specs.Entities.{Entities}
use Rattle.frame_expectation.specs.Check.{Holds}
use Rattle.text_expectations.specs.declared.reading.ExpectedLine.{ExpectedLine}
use Rattle.text_outcomes.specs.Said.{IsSaid, IsSaidOf}

module _ (e : Entities) (least : ℕ) (lines : List ExpectedLine) (i : ℕ) (line : ExpectedLine) (within : i < length lines) (is : line ≡ get_or lines i line) where
  -- where all before hold
  more_hold : (here : Bool) → IsSaidOf e least (take i lines) true → IsSaid e least line.expectation here → IsSaidOf e least (take (i + 1) lines) here
  more_hold true said holds =
      All-more (λ (line : ExpectedLine). Holds e line.expectation least) lines i line within said
      (subst (λ (l : ExpectedLine). Holds e l.expectation least) is holds)
  more_hold false said fails = (
    line,
    subst (λ (l : List ExpectedLine). Contains l line) (sym (take_more lines i line within))
        (subst (λ (l : ExpectedLine). Contains (take i lines ++ l ∷ []) line) is (Contains-push (take i lines) line)),
    fails,
  )

  -- and where one of them doesn't
  more_fail : IsSaidOf e least (take i lines) false → IsSaidOf e least (take (i + 1) lines) false
  more_fail said = (
    said.0,
    subst (λ (l : List ExpectedLine). Contains l said.0) (sym (take_more lines i line within))
        (Contains-append_left (take i lines) (get_or lines i line ∷ []) said.0 said.1),
    said.2,
  )

  pub said_more : (hold here both : Bool) → both ≡ (hold && here) → IsSaidOf e least (take i lines) hold → IsSaid e least line.expectation here
      → IsSaidOf e least (take (i + 1) lines) both
  said_more true here both same said at = subst (IsSaidOf e least (take (i + 1) lines)) (sym same) (more_hold here said at)
  said_more false here both same said at = subst (IsSaidOf e least (take (i + 1) lines)) (sym same) (more_fail said)
