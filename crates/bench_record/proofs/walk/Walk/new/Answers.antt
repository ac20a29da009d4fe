use Rattle.std.proofs.Common.{refl, rules}
use Rattle.bench_record.proofs.Walks.{nothing_kept}
use Rattle.bench_record.proofs.walk.Walk.new.Goals as goal

pub returns-clause-seen : goal.returns-clause-seen
returns-clause-seen c = λ lost.
    nothing_kept lost _ (search rules) c.new-2.ensures c.new-3.ensures refl (search rules) (search rules) (search rules) (search rules) (search rules) (search rules) refl
