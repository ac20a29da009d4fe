use Rattle.std.proofs.Common.{◌≡◌, ◌++◌, ◌∙◌, arith, drop, length, sym, take}
use Rattle.managed_entity.specs.Class.{mapper_class, room_of, vlan_class}
use Rattle.mib_state.specs.Touch.{AreSameButOne}
use Rattle.forward_plan.proofs.Classes.{none_touched, other_class}
use Rattle.forward_plan.proofs.Kept.{mappers_stay, readers_stay, same_mappers, same_plan, written_whole}
use Rattle.forward_plan.proofs.plan.Plan.follow_one.Goals as goal

pub returns-in_default : goal.returns-in_default
returns-in_default c =
    let (e, same, was) = c.requires in
    same_plan e c.args.mib.now.entities c.args.self.now (none_touched c.args.class c.args.instance e c.args.mib.now.entities (sym c.of.ensures.value ∙ c.in_default.is) same) was

pub follow_mappers-requires-clause-right : goal.follow_mappers-requires-clause-right
follow_mappers-requires-clause-right c =
    let (e, same, was) = c.requires in
    let new = c.args.mib.now.entities in
    let mappers = c.args.self.now.mappers in
    let parts = c.forget-in-Mapper.new.parts in
    let len : length parts ≡ room_of mapper_class = omega (arith, c.forget-in-Mapper.ensures.forgotten.len, c.deref_mut-in-Mapper.ensures.len, c.args.self.now.for_mappers) in
    let but_one : AreSameButOne mapper_class c.args.instance e new = rw (c.in-Some.ensures.number, c.in-Mapper.is) at same in
    let forgotten = rw c.deref_mut-in-Mapper.ensures.value at c.forget-in-Mapper.ensures.forgotten in
    rw (c.deref_mut-in-Mapper-2.ensures.value, written_whole parts mappers.items mappers.len (room_of mapper_class) c.args.self.now.for_mappers len)
    (mappers_stay e new c.args.instance mappers.items parts but_one forgotten was.of_mappers.right)

pub follow_mappers-requires-in-OnuData-clause-right : goal.follow_mappers-requires-in-OnuData-clause-right
follow_mappers-requires-in-OnuData-clause-right c =
    let (e, same, was) = c.requires in
    let new = c.args.mib.now.entities in
    let mappers = c.args.self.now.mappers in
    let parts = c.forget_readers.new.mappers in
    let len : length parts ≡ room_of mapper_class = omega (arith, c.forget_readers.ensures.len, c.deref_mut-in-OnuData.ensures.len, c.args.self.now.for_mappers) in
    let other = other_class c.args.class c.in-Some.known c.in-Some.ensures.number c.in-OnuData.is in
    let forgotten = rw c.deref_mut-in-OnuData.ensures.value at c.forget_readers.ensures in
    rw (c.deref_mut-in-OnuData-2.ensures.value, written_whole parts mappers.items mappers.len (room_of mapper_class) c.args.self.now.for_mappers len)
    (readers_stay e new c.args.class c.args.instance mappers.items parts same (same.mappers.elsewhere other.mappers) forgotten was.of_mappers.right)

pub returns-in-Vlan : goal.returns-in-Vlan
returns-in-Vlan c =
    let (e, same, was) = c.requires in
    let new = c.args.mib.now.entities in
    let tables = c.args.self.now.tables in
    let mappers = c.args.self.now.mappers in
    let parts = c.follow_tables.new.tables in
    let first = c.forget.new.parts in
    let but_one : AreSameButOne vlan_class c.args.instance e new = rw (c.in-Some.ensures.number, c.in-Vlan.is) at same in
    record {
      of_ports = c.follow.ensures;
      of_tables = rw (written_whole parts (take tables.len (first ++ drop (length first) tables.items)) tables.len (room_of vlan_class) c.args.self.now.for_tables c.follow_tables.ensures.room) c.follow_tables.ensures.tables;
      of_mappers =
          same_mappers e new mappers.items (but_one.mappers.elsewhere (λ is. absurd (omega (arith, is))))
          (but_one.interworks.elsewhere (λ is. absurd (omega (arith, is)))) (but_one.gem_ports.elsewhere (λ is. absurd (omega (arith, is)))) was.of_mappers;
    }
