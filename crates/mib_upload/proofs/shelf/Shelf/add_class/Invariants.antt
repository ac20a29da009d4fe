use Rattle.std.proofs.Common.{◌-◌}
use Rattle.managed_entity.specs.Class.{room_of}
use Rattle.mib_state.specs.Entities.{instances_of}
use Rattle.mib_upload.proofs.Walk.{Walks}
use Rattle.mib_upload.proofs.shelf.Shelf.add_class.Given as goal

abbrev pub invariant-loop-held : goal.invariant-loop-held
invariant-loop-held l = Walks l.class (instances_of l.mib.entities l.class) l.fn.self l.place l.self

abbrev pub decreases-loop-held : goal.decreases-loop-held
decreases-loop-held l = room_of l.class - l.place
