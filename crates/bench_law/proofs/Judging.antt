-- No judgement of a history that an observation shows finds a deviation, and no list of deviations has one.
use Rattle.std.proofs.Common.{◌≡◌, ◌+◌, List, subst}
use Rattle.bench_history.specs.declared.event.Event.{Event}
use Rattle.bench_judge.specs.Explained.{IsExplained}
use Rattle.bench_judge.specs.Terms.{Terms}
use Rattle.bench_judge.specs.declared.judgement.Findings.TheVariants as findings
use Rattle.bench_judge.specs.declared.judgement.Judgement.TheVariants.{Explained, Deviates}
use Rattle.bench_judge.proofs.Fronts.{explained_front}
use Rattle.bench_law.specs.Steps.{shown}
use Rattle.bench_law.specs.Law.{NoDeviationIsFound, NoDeviationIsListed}
use Rattle.bench_law.proofs.Explaining.{no_right_unit_is_accused}

pub no_deviation_is_found : NoDeviationIsFound
no_deviation_is_found lanes needed settings start steps text (Explained e) o allow read is = tt
no_deviation_is_found lanes needed settings start steps text (Deviates d) o allow read is =
    let terms : Terms = record { settings = settings; start = start } in
    let same : shown steps ≡ is.events = cc (read, is.read) in
    let all : IsExplained terms is.events =
    subst (λ (events : List Event). IsExplained terms events) same (no_right_unit_is_accused lanes needed settings start steps o allow) in
    is.found.first.behind (explained_front terms (is.found.place + 1) is.events all)

pub no_deviation_is_listed : NoDeviationIsListed
no_deviation_is_listed lanes needed settings start steps text most (findings.Explained e) o allow read is = tt
no_deviation_is_listed lanes needed settings start steps text most (findings.Deviates d) o allow read is =
    let terms : Terms = record { settings = settings; start = start } in
    let same : shown steps ≡ is.events = cc (read, is.read) in
    is.found.unexplained
    (subst (λ (events : List Event). IsExplained terms events) same (no_right_unit_is_accused lanes needed settings start steps o allow))
