use Rattle.bench_judge.proofs.Least.{least_are_a_choice}
use Rattle.bench_judge.proofs.laws.law_of_least_versions.Goals as goal

pub returns : goal.returns
returns c = least_are_a_choice
