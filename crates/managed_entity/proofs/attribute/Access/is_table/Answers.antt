-- Bounded, so that a wrong body is refused at once.
use Rattle.std.proofs.Common.{rules}
use Rattle.managed_entity.proofs.attribute.Access.is_table.Goals as goal

pub returns-in-Table : goal.returns-in-Table
returns-in-Table c = search rules fits 30
