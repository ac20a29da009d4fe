-- Bounded, so that a wrong body is refused at once.
use Rattle.std.proofs.Common.{rules}
use Rattle.vlan_rule.proofs.rank.Rank.number.Goals as goal

pub returns-in-Default : goal.returns-in-Default
returns-in-Default c = search rules fits 30
