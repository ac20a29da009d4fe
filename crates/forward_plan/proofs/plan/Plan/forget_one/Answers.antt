use Rattle.std.proofs.Common.{◌≡◌, arith, length, sym, ◌∙◌}
use Rattle.managed_entity.specs.Class.{mapper_class, room_of, vlan_class}
use Rattle.mib_state.specs.Touch.{AreSameButOne}
use Rattle.forward_plan.proofs.Classes.{none_touched, other_class}
use Rattle.forward_plan.proofs.Kept.{behind_same, mappers_right, mappers_stay, readers_stay, tables_stay, written_whole}
use Rattle.forward_plan.proofs.plan.Plan.forget_one.Goals as goal

pub returns-in_default : goal.returns-in_default
returns-in_default c old new same is =
    behind_same old new c.args.self.now (none_touched c.args.class c.args.instance old new (sym c.of.ensures.value ∙ c.in_default.is) same) is

pub returns-in-Vlan : goal.returns-in-Vlan
returns-in-Vlan c old new same is =
    let tables = c.args.self.now.tables in
    let parts = c.forget.new.parts in
    let len : length parts ≡ room_of vlan_class = omega (arith, c.forget.ensures.forgotten.len, c.deref_mut.ensures.len, c.args.self.now.for_tables) in
    let but_one : AreSameButOne vlan_class c.args.instance old new = rw (c.in-Some.ensures.number, c.in-Vlan.is) at same in
    let forgotten = rw c.deref_mut.ensures.value at c.forget.ensures.forgotten in
    record {
      before = is.before;
      of_ports = is.of_ports;
      of_tables =
          rw (written_whole parts tables.items tables.len (room_of vlan_class) c.args.self.now.for_tables len)
          (tables_stay old.vlans new.vlans c.args.instance tables.items parts but_one.vlans.others forgotten is.of_tables);
      of_mappers =
          mappers_right old new c.args.self.now.mappers.items (but_one.mappers.elsewhere (λ e. absurd (omega (arith, e))))
          (but_one.interworks.elsewhere (λ e. absurd (omega (arith, e)))) (but_one.gem_ports.elsewhere (λ e. absurd (omega (arith, e)))) is.of_mappers;
    }

pub returns-in-Mapper : goal.returns-in-Mapper
returns-in-Mapper c old new same is =
    let mappers = c.args.self.now.mappers in
    let parts = c.forget-in-Mapper.new.parts in
    let len : length parts ≡ room_of mapper_class = omega (arith, c.forget-in-Mapper.ensures.forgotten.len, c.deref_mut-in-Mapper.ensures.len, c.args.self.now.for_mappers) in
    let but_one : AreSameButOne mapper_class c.args.instance old new = rw (c.in-Some.ensures.number, c.in-Mapper.is) at same in
    let forgotten = rw c.deref_mut-in-Mapper.ensures.value at c.forget-in-Mapper.ensures.forgotten in
    record {
      before = is.before;
      of_ports = is.of_ports;
      of_tables = rw (but_one.vlans.elsewhere (λ e. absurd (omega (arith, e)))) is.of_tables;
      of_mappers =
          rw (written_whole parts mappers.items mappers.len (room_of mapper_class) c.args.self.now.for_mappers len)
          (mappers_stay old new c.args.instance mappers.items parts but_one forgotten is.of_mappers);
    }

pub returns-in-OnuData : goal.returns-in-OnuData
returns-in-OnuData c old new same is =
    let mappers = c.args.self.now.mappers in
    let parts = c.forget_readers.new.mappers in
    let len : length parts ≡ room_of mapper_class = omega (arith, c.forget_readers.ensures.len, c.deref_mut-in-OnuData.ensures.len, c.args.self.now.for_mappers) in
    let other = other_class c.args.class c.in-Some.known c.in-Some.ensures.number c.in-OnuData.is in
    let forgotten = rw c.deref_mut-in-OnuData.ensures.value at c.forget_readers.ensures in
    record {
      before = is.before;
      of_ports = is.of_ports;
      of_tables = rw (same.vlans.elsewhere other.tables) is.of_tables;
      of_mappers =
          rw (written_whole parts mappers.items mappers.len (room_of mapper_class) c.args.self.now.for_mappers len)
          (readers_stay old new c.args.class c.args.instance mappers.items parts same (same.mappers.elsewhere other.mappers) forgotten is.of_mappers);
    }
