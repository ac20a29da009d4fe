-- Bounded, so that a wrong body is refused at once.
use Rattle.std.proofs.Common.{rules}
use Rattle.managed_entity.proofs.vlan.VlanConfigManagedEntity.new.Goals as goal

pub returns-clause-values : goal.returns-clause-values
returns-clause-values c = search rules fits 30
