use Rattle.std.proofs.Common.{subst, sym}
use Rattle.vlan_rule.specs.Spelling.{IsTagCodes}
use Rattle.vlan_rule.proofs.Spelled.{treatment-codes-fit}
use Rattle.vlan_rule.proofs.rule.Rule.rest.Goals as goal

pub number-inner-requires : goal.number-inner-requires
number-inner-requires c =
    let rule = c.args.self.now in
    let fit = treatment-codes-fit rule.filter rule.ethertype rule.treatment rule.rank rule.codable in
    subst IsTagCodes (sym c.inner_codes.ensures) fit.inner
