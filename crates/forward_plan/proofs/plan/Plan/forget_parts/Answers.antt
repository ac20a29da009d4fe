use Rattle.std.proofs.Common.{◌≡◌, arith, length}
use Rattle.managed_entity.specs.Class.{mapper_class, room_of, vlan_class}
use Rattle.forward_plan.specs.Parts.{IsMapper, IsTable}
use Rattle.forward_plan.proofs.Kept.{none_right, written_whole}
use Rattle.forward_plan.proofs.plan.Plan.forget_parts.Goals as goal

pub returns : goal.returns
returns c old new is =
    let tables = c.args.self.now.tables in
    let mappers = c.args.self.now.mappers in
    let parts = c.forget_all.new.parts in
    let routes = c.forget_all-2.new.parts in
    let len : length parts ≡ room_of vlan_class = omega (arith, c.forget_all.ensures.len, c.deref_mut.ensures.len, c.args.self.now.for_tables) in
    let len_of_routes : length routes ≡ room_of mapper_class = omega (arith, c.forget_all-2.ensures.len, c.deref_mut-2.ensures.len, c.args.self.now.for_mappers) in
    record {
      before = is.before;
      of_ports = is.of_ports;
      of_tables =
          rw (written_whole parts tables.items tables.len (room_of vlan_class) c.args.self.now.for_tables len)
          (none_right IsTable new.vlans c.deref_mut.result.now parts c.forget_all.ensures);
      of_mappers =
          rw (written_whole routes mappers.items mappers.len (room_of mapper_class) c.args.self.now.for_mappers len_of_routes)
          (none_right (IsMapper new) new.mappers c.deref_mut-2.result.now routes c.forget_all-2.ensures);
    }
