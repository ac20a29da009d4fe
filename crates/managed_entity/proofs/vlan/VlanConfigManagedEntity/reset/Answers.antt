-- Bounded, so that a wrong body is refused at once.
use Rattle.std.proofs.Common.{rules}
use Rattle.managed_entity.proofs.vlan.VlanConfigManagedEntity.reset.Goals as goal

pub returns-clause-entries : goal.returns-clause-entries
returns-clause-entries c = search rules fits 30
