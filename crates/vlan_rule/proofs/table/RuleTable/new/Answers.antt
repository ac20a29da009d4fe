-- Bounded, so that a wrong body is refused at once.
use Rattle.std.proofs.Common.{rules}
use Rattle.vlan_rule.proofs.table.RuleTable.new.Goals as goal

pub invariant_of-table : goal.invariant_of-table
invariant_of-table c = search rules fits 30

pub returns : goal.returns
returns c = assumption
