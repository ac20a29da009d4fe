use Rattle.std.proofs.Common.{◌≡◌, ℕ, List, ap, ◌∙◌, subst, sym}
use Rattle.vlan_rule.specs.Entry.{entry_of}
use Rattle.vlan_rule.specs.Meaning.{Means}
use Rattle.vlan_rule.specs.Spelling.{spelled, spelled_key_of}
use Rattle.vlan_rule.proofs.Spelled.{spelled-means}
use Rattle.vlan_rule.proofs.rule.Rule.spell.Goals as goal

pub returns-clause-read : goal.returns-clause-read
returns-clause-read c =
    let rule = c.args.self.now in
    let bytes : c.of.result.0 ≡ spelled rule.filter rule.ethertype rule.treatment rule.rank =
    c.of.ensures
    ∙ ap (λ (k : ℕ). entry_of k c.rest.result) c.key.ensures
    ∙ ap (entry_of (spelled_key_of rule.filter rule.ethertype rule.rank)) c.rest.ensures in
    subst (λ (e : List ℕ). Means e rule.filter rule.ethertype rule.treatment rule.rank) (sym bytes)
    (spelled-means rule.filter rule.ethertype rule.treatment rule.rank rule.codable)
