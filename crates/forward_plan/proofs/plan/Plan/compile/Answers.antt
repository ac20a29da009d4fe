use Rattle.std.proofs.Common.{◌≡◌, arith, length}
use Rattle.managed_entity.specs.Class.{mapper_class, room_of}
use Rattle.forward_plan.specs.Parts.{IsMapper}
use Rattle.forward_plan.proofs.Kept.{none_right, written_whole}
use Rattle.forward_plan.proofs.plan.Plan.compile.Goals as goal

pub follow_mappers-mappers-requires-clause-right : goal.follow_mappers-mappers-requires-clause-right
follow_mappers-mappers-requires-clause-right c =
    let e = c.args.mib.now.entities in
    let mappers = c.args.self.now.mappers in
    let new = c.forget_all-2.new.parts in
    let len : length new ≡ room_of mapper_class = omega (arith, c.forget_all-2.ensures.len, c.deref_mut-2.ensures.len, c.args.self.now.for_mappers) in
    rw (c.deref_mut-4.ensures.value, written_whole new mappers.items mappers.len (room_of mapper_class) c.args.self.now.for_mappers len)
    (none_right (IsMapper e) e.mappers c.deref_mut-2.result.now new c.forget_all-2.ensures)
