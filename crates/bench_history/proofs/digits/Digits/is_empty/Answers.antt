use Rattle.std.proofs.Common.{◌∙◌}
use Rattle.bench_history.proofs.Spelled.{none_or_some, twice_as_many}
use Rattle.bench_history.proofs.digits.Digits.is_empty.Goals as goal

pub returns : goal.returns
returns c = rw (← c.self.view_is) (c.is_empty.ensures ∙ none_or_some _ _ (twice_as_many c.self.inside.digits.now c.self.invariant.0))
