-- Bounded, so that a wrong body is refused at once.
use Rattle.std.proofs.Common.{rules}
use Rattle.vlan_rule.proofs.filter.PriorityFilter.is.Goals as goal

pub returns-in-Exactly : goal.returns-in-Exactly
returns-in-Exactly c = search rules fits 30
