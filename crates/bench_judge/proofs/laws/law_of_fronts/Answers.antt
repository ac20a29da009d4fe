use Rattle.bench_judge.proofs.Least.{fronts_are_explained}
use Rattle.bench_judge.proofs.laws.law_of_fronts.Goals as goal

pub returns : goal.returns
returns c = fronts_are_explained
