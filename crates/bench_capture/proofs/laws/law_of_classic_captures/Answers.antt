-- Both parts are lemmas.
use Rattle.bench_capture.proofs.Law.{faulty, sound}
use Rattle.bench_capture.proofs.laws.law_of_classic_captures.Goals as goal

pub returns : goal.returns
returns c = record { sound = sound; faulty = faulty }
