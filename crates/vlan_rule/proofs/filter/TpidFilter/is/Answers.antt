-- Bounded, so that a wrong body is refused at once.
use Rattle.std.proofs.Common.{rules}
use Rattle.vlan_rule.proofs.filter.TpidFilter.is.Goals as goal

pub returns-in-Input : goal.returns-in-Input
returns-in-Input c = search rules fits 30
