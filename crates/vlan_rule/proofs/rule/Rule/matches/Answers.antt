use Rattle.std.proofs.Common.{◌&&◌, Bool, sym, ap, ◌∙◌}
use Rattle.vlan_rule.specs.Choice.{has_type}
use Rattle.vlan_rule.proofs.Chosen.{rule_matches}
use Rattle.vlan_rule.proofs.rule.Rule.matches.Goals as goal

pub returns-then-are_tags-clause-of_entry : goal.returns-then-are_tags-clause-of_entry
returns-then-are_tags-clause-of_entry c =
    λ entry is. c.is.ensures
    ∙ ap (λ (tagged : Bool). tagged && has_type c.args.self.now.ethertype c.args.ethertype) (sym c.if-are_tags.true ∙ c.are_tags.ensures)
    ∙ sym (rule_matches entry c.args.self.now c.args.input_tpid c.args.tags.now c.args.ethertype is)

pub returns-else-are_tags-clause-of_entry : goal.returns-else-are_tags-clause-of_entry
returns-else-are_tags-clause-of_entry c =
    λ entry is. c.if-are_tags.false
    ∙ ap (λ (tagged : Bool). tagged && has_type c.args.self.now.ethertype c.args.ethertype) (sym c.if-are_tags.false ∙ c.are_tags.ensures)
    ∙ sym (rule_matches entry c.args.self.now c.args.input_tpid c.args.tags.now c.args.ethertype is)
