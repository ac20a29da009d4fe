-- Bounded, so that a wrong body is refused at once.
use Rattle.std.proofs.Common.{rules}
use Rattle.vlan_rule.proofs.fault.TableFault.code.Goals as goal

pub returns-in-Full : goal.returns-in-Full
returns-in-Full c = search rules fits 30
