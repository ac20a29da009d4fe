-- Bounded, so that a wrong body is refused at once.
use Rattle.managed_entity.proofs.Entry.{left_by_put}
use Rattle.std.proofs.Common.{rules}
use Rattle.managed_entity.proofs.vlan.VlanConfigManagedEntity.put_entry.Goals as goal

pub returns-clause-entries : goal.returns-clause-entries
returns-clause-entries c = search (rules, left_by_put) fits 30
