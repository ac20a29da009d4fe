-- Bounded, so that a wrong body is refused at once.
use Rattle.std.proofs.Common.{rules}
use Rattle.pmapper.specs.Mapper.{priority_of}
use Rattle.pmapper.proofs.mapping.priority.Goals as goal

pub returns-in-Some-clause-value : goal.returns-in-Some-clause-value
unfolding priority_of
returns-in-Some-clause-value c = search rules fits 30
