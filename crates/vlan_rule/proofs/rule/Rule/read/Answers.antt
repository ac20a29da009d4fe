use Rattle.std.proofs.Common.{◌∙◌, ap, rules}
use Rattle.vlan_rule.specs.Meaning.{Means, ethertype_of, filter_of, rank_of, treatment_fits}
use Rattle.vlan_rule.proofs.Codable.{rule-spellable}
use Rattle.vlan_rule.proofs.Fits.{treatment-fits}
use Rattle.vlan_rule.proofs.rule.Rule.read.Goals as goal

pub invariant_of-result : goal.invariant_of-result
unfolding filter_of ethertype_of rank_of
invariant_of-result c =
    let entry = c.args.entry.now.0 in
    let means : Means entry c.of.result c.of-in-None.result c.of-in-None-2.result c.of-in-None-3.result = search rules in
    record {
      codable = rule-spellable entry _ _ _ _ means c.is_predefined.ensures.bytes;
      fits = ap treatment_fits c.of-in-None-2.ensures ∙ treatment-fits entry means.accepted;
    }
