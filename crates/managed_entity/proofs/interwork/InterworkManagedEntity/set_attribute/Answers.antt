-- Bounded, so that a wrong body is refused at once.
use Rattle.std.proofs.Common.{rules}
use Rattle.managed_entity.proofs.interwork.InterworkManagedEntity.set_attribute.Goals as goal

pub returns-in-0-clause-values : goal.returns-in-0-clause-values
returns-in-0-clause-values c = search rules fits 30
