use Rattle.std.proofs.Common.{ap, Some, ◌∙◌}
use Rattle.managed_entity.specs.Shown.{vlan_instance}
use Rattle.frame_meaning.specs.Meaning.{Table}
use Rattle.frame_meaning.proofs.Tables.{at_some}
use Rattle.frame_meaning.proofs.table.PortTable.at.Goals as goal

pub returns : goal.returns
returns c =
    let n = c.in_ok-instance.instance in
    let vlan = vlan_instance n c.in_ok-vlan.vlan.now in
    ap (λ (t : Table). Some t) (c.of.ensures n) ∙ at_some c.args.mib.now.entities c.args.port n vlan c.in_ok-instance.ensures c.in_ok-vlan.ensures
