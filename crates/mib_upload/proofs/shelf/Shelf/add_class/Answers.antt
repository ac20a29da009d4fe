use Rattle.std.proofs.Common.{arith}
use Rattle.mib_state.specs.Entities.{instances_of}
use Rattle.mib_upload.proofs.Walk.{room_small, walks_first, has_room, walks_next, walked, each_walked, few_rows}
use Rattle.mib_upload.proofs.shelf.Shelf.add_class.Goals as goal

pub loop-held-init : goal.loop-held-init
loop-held-init c = walks_first c.args.class (instances_of c.args.mib.now.entities c.args.class) c.args.self.now

pub add_instance-requires : goal.add_instance-requires
add_instance-requires c =
    rw c.in-Some.ensures.class (omega (arith, has_room _ _ _ _ _ c.loop-held.invariant c.in-Some.ensures.room, c.requires))

pub overflow_add-place : goal.overflow_add-place
overflow_add-place c = omega (arith, c.in-Some.ensures.room, room_small c.args.class)

pub loop-held-preserved : goal.loop-held-preserved
loop-held-preserved c =
    walks_next _ _ _ _ _ c.loop-held.invariant c.in-Some.held.instance c.in-Some.ensures.instance c.in-Some.ensures.room _
    (rw c.in-Some.ensures.class at c.add_instance.ensures.rows) (rw c.in-Some.ensures.class at c.add_instance.ensures.room) (rw c.in-Some.ensures.class at c.add_instance.ensures.each)

pub returns-clause-rows : goal.returns-clause-rows
returns-clause-rows c = walked _ _ _ _ _ c.loop-held.invariant c.in_default.ensures.instance

pub returns-clause-each : goal.returns-clause-each
returns-clause-each c = each_walked _ _ _ _ _ c.loop-held.invariant c.in_default.ensures.instance

pub returns-clause-room : goal.returns-clause-room
returns-clause-room c = few_rows _ _ _ _ _ c.loop-held.invariant
