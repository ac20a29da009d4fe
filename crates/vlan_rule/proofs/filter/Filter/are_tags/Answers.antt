-- Bounded, so that a wrong body is refused at once.
use Rattle.std.proofs.Common.{rules}
use Rattle.vlan_rule.proofs.filter.Filter.are_tags.Goals as goal

pub returns-else-is : goal.returns-else-is
returns-else-is c = search rules fits 300
