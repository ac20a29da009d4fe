-- Bounded, so that a wrong body is refused at once.
use Rattle.std.proofs.Common.{rules}
use Rattle.managed_entity.proofs.class.Class.layout.Goals as goal

pub returns-in-Mapper : goal.returns-in-Mapper
returns-in-Mapper c = search rules fits 30

pub returns-in-Vlan : goal.returns-in-Vlan
returns-in-Vlan c = search rules fits 30
