use Rattle.std.proofs.Common.{arith, sym}
use Rattle.managed_entity.specs.Shown.{vlan_instance}
use Rattle.explain_findings.specs.Reach.{port_of_table}
use Rattle.explain_findings.proofs.Growing.{all_placed, placed}
use Rattle.explain_findings.proofs.reach.append_ports_of_tables.Goals as goal

pub each-preserved : goal.each-preserved
each-preserved c = record {
  so_far =
      placed port_of_table c.args.mib.now.entities.vlans c.each.place (vlan_instance c.in-Some.field-0-0 c.in-Some.vlan.now) c.port_of_table.result _ _ _ (sym c.in-Some.ensures.shown)
      c.each.invariant.so_far (c.port_of_table.ensures c.in-Some.field-0-0) c.in_ok-append.ensures;
  few = omega (arith, c.in-Some.ensures.room);
}

pub returns : goal.returns
returns c = all_placed port_of_table c.args.mib.now.entities.vlans c.each.place _ _ (sym c.in_default.ensures.shown) c.each.invariant.so_far
