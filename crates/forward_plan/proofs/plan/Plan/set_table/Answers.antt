use Rattle.std.proofs.Common.{◌≡◌, refl, arith, length}
use Rattle.managed_entity.specs.Class.{room_of, vlan_class}
use Rattle.managed_entity.specs.Shown.{vlan_instance}
use Rattle.forward_plan.specs.Parts.{IsTable}
use Rattle.forward_plan.proofs.Kept.{same_mappers, tables_stay, written_whole}
use Rattle.forward_plan.proofs.Replaced.{one_compiled, set_at}
use Rattle.forward_plan.proofs.plan.Plan.set_table.Goals as goal

pub index_mut-requires : goal.index_mut-requires
index_mut-requires c = omega (arith, c.in-Some.ensures.room, c.args.self.now.for_tables)

pub set_table-requires-clause-changed : goal.set_table-requires-clause-changed
set_table-requires-clause-changed c =
    let (e, is, was) = c.requires in
    let new = c.args.mib.now.entities in
    let at = set_at c.args.instance e.vlans new.vlans c.in-Some.place (is.vlans refl) c.in-Some.ensures.place in
    (e, at, is.same.mappers.elsewhere (λ same. absurd (omega (arith, same))), was.of_ports)

pub returns : goal.returns
returns c =
    let (e, is, was) = c.requires in
    let new = c.args.mib.now.entities in
    let place = c.in-Some.place in
    let tables = c.args.self.now.tables in
    let mappers = c.args.self.now.mappers in
    let kept = c.forget.new.parts in
    let part = c.follow.new.self in
    let at = set_at c.args.instance e.vlans new.vlans place (is.vlans refl) c.in-Some.ensures.place in
    let len : length kept ≡ room_of vlan_class = omega (arith, c.forget.ensures.forgotten.len, c.deref_mut.ensures.len, c.args.self.now.for_tables) in
    let whole = written_whole kept tables.items tables.len (room_of vlan_class) c.args.self.now.for_tables len in
    let forgotten = rw c.deref_mut.ensures.value at c.forget.ensures.forgotten in
    let compiled = rw c.deref_mut.ensures.value at c.forget.ensures.compiled in
    record {
      of_ports = c.set_table.ensures;
      of_tables =
          rw whole
          (one_compiled IsTable IsTable e.vlans new.vlans place c.in-Some.number (vlan_instance c.in-Some.number c.in-Some.vlan.now) tables.items kept part at c.in-Some.ensures.shown
          c.in-Some.ensures.found c.follow.ensures.number (c.follow.ensures.table c.in-Some.number) (λ i compiled is. is) (omega (arith, c.in-Some.ensures.room, len)) compiled
          (tables_stay e.vlans new.vlans c.args.instance tables.items kept is.same.vlans.others forgotten was.of_tables.right) was.of_tables);
      of_mappers =
          same_mappers e new mappers.items (is.same.mappers.elsewhere (λ same. absurd (omega (arith, same))))
          (is.same.interworks.elsewhere (λ same. absurd (omega (arith, same)))) (is.same.gem_ports.elsewhere (λ same. absurd (omega (arith, same)))) was.of_mappers;
    }
