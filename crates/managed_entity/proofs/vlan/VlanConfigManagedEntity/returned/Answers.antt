-- Bounded, so that a wrong body is refused at once.
use Rattle.std.proofs.Common.{rules}
use Rattle.managed_entity.proofs.vlan.VlanConfigManagedEntity.returned.Goals as goal

pub returns-in-5-clause-value : goal.returns-in-5-clause-value
returns-in-5-clause-value c = search rules fits 30
