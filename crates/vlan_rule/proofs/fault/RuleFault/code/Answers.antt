-- Bounded, so that a wrong body is refused at once.
use Rattle.std.proofs.Common.{rules}
use Rattle.vlan_rule.proofs.fault.RuleFault.code.Goals as goal

pub returns-in-Vid : goal.returns-in-Vid
returns-in-Vid c = search rules fits 30
