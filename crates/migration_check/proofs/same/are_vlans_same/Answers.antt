use Rattle.std.proofs.Common.{◌∙◌, sym}
use Rattle.migration_check.proofs.Numbers.{found_more}
use Rattle.migration_check.proofs.same.are_vlans_same.Goals as goal

pub loop-number-preserved : goal.loop-number-preserved
loop-number-preserved c =
    let n = c.loop-number.number in
    found_more c.args.one.now.entities.vlans c.args.other.now.entities.vlans n c.loop-number.invariant
    (sym c.vlan.ensures ∙ (c.is_vlan_same.ensures c.if-not-is_vlan_same.false n ∙ c.vlan-in-loop-number.ensures))
