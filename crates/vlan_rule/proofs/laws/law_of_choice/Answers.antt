use Rattle.vlan_rule.proofs.Chosen.{chosen_once}
use Rattle.vlan_rule.proofs.laws.law_of_choice.Goals as goal

pub returns : goal.returns
returns c = chosen_once
