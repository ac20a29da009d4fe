-- Laws of explained histories.
use Rattle.std.specs.Prelude.{ℕ, Bool, List, take}
use Rattle.bench_history.specs.declared.event.Event.{Event}
use Rattle.bench_answers.specs.Ground.{Ground}
use Rattle.bench_judge.specs.Terms.{Terms}
use Rattle.bench_judge.specs.Explained.{EndedFrame, IsChoice, IsEnded, IsExplained}
use Rattle.bench_judge.specs.Judged.{IsLeastVersion}

-- each front of an explained history is explained
abbrev pub FrontsAreExplained : Type 0
FrontsAreExplained = (terms : Terms) (events : List Event) → IsExplained terms events → (place : ℕ) → IsExplained terms (take place events)

-- the least versions of all ended frames together are a choice
abbrev pub LeastAreAChoice : Type 0
LeastAreAChoice = (grounds : Ground) (padded unordered : Bool) (events : List Event) (versions : ℕ → ℕ)
    → ((f : EndedFrame) → IsEnded events f → IsLeastVersion grounds padded unordered events f (versions f.number)) → IsChoice grounds padded unordered events versions
