use Rattle.std.proofs.Common.{rules}
use Rattle.vlan_rule.specs.Entry.{key_of}
use Rattle.vlan_rule.proofs.entry.key_of.Goals as goal

pub returns-clause-value : goal.returns-clause-value
unfolding key_of
returns-clause-value c = search rules
