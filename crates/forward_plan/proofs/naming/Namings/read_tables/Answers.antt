use Rattle.std.proofs.Common.{◌≡◌, ◌∙◌, arith, ap, length}
use Rattle.std.specs.Prelude.{slice_get}
use Rattle.managed_entity.specs.Instance.{Instance}
use Rattle.managed_entity.specs.Shown.{vlan_instance}
use Rattle.forward_plan.specs.Attachment.{table_naming}
use Rattle.forward_plan.proofs.Names.{length_last, read_all, read_more}
use Rattle.forward_plan.proofs.naming.Namings.read_tables.Goals as goal

pub loop-number-preserved : goal.loop-number-preserved
loop-number-preserved c =
    let names = c.loop-number.self.tables.items in
    let here : Instance = vlan_instance c.in-Some.number c.in-Some.table.now in
    let len : c.len.result ≡ length names = omega (arith, c.len.ensures) in
    let last = length_last names c.of_table.result in
    rw c.push_reserved.ensures.items (record {
      so_far = read_more table_naming c.args.mib.now.entities.vlans names here c.of_table.result (c.in-Some.ensures.shown ∙ ap (slice_get c.args.mib.now.entities.vlans) len) c.of_table.ensures c.loop-number.invariant.so_far;
      few = omega (arith, last, c.in-Some.ensures.room, c.len.ensures);
      mappers = c.loop-number.invariant.mappers;
    })

pub returns-clause-tables : goal.returns-clause-tables
returns-clause-tables c =
    let len : c.len.result ≡ length c.loop-number.self.tables.items = omega (arith, c.len.ensures) in
    read_all table_naming c.args.mib.now.entities.vlans c.loop-number.self.tables.items (c.in_default.ensures.shown ∙ ap (slice_get c.args.mib.now.entities.vlans) len) c.loop-number.invariant.so_far
