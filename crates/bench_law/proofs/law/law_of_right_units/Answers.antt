-- Each part is a lemma.
use Rattle.bench_law.proofs.Explaining.{no_right_unit_is_accused}
use Rattle.bench_law.proofs.Judging.{no_deviation_is_found, no_deviation_is_listed}
use Rattle.bench_law.proofs.law.law_of_right_units.Goals as goal

pub returns : goal.returns
returns c = record { explained = no_right_unit_is_accused; found = no_deviation_is_found; listed = no_deviation_is_listed }
