use Rattle.plan_publish.proofs.Same.{told_same}
use Rattle.plan_publish.proofs.edition.are_same.Goals as goal

pub returns-in-Some-Some-clause-same : goal.returns-in-Some-Some-clause-same
returns-in-Some-Some-clause-same c = rw (c.in-Some-Some.is-0, c.in-Some-Some.is-1) (told_same _ _ _ c.is_same.ensures)
