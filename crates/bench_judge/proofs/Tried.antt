-- Whether events have a choice, by what was found for them.
use Rattle.std.proofs.Common.{◌≡◌, ℕ, Bool, true, false, List, Option, Some, None, Vec, is_some}
use Rattle.std.specs.declared.alloc.Global.{Global}
use Rattle.bench_history.specs.declared.event.Event.{Event}
use Rattle.bench_answers.specs.Ground.{Ground}
use Rattle.bench_judge.specs.Cut.{HasChoice, IsChosen, by_number}

pub choice_found : (grounds : Ground) (padded unordered : Bool) (events : List Event) (found : Option (Vec ℕ Global)) → IsChosen grounds padded unordered events found
    → is_some found ≡ true → HasChoice grounds padded unordered events
choice_found grounds padded unordered events (Some versions) is some = (by_number versions, is.0)
choice_found grounds padded unordered events None is some = cc some

pub no_choice_found : (grounds : Ground) (padded unordered : Bool) (events : List Event) (found : Option (Vec ℕ Global)) → IsChosen grounds padded unordered events found
    → is_some found ≡ false → HasChoice grounds padded unordered events → ⊥
no_choice_found grounds padded unordered events (Some versions) is none = cc none
no_choice_found grounds padded unordered events None is none = is
