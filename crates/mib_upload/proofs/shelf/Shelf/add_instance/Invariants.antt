use Rattle.mib_upload.proofs.Reading.{Keeps}
use Rattle.mib_upload.proofs.shelf.Shelf.add_instance.Given as goal

abbrev pub invariant-loop-n : goal.invariant-loop-n
invariant-loop-n l = Keeps l.held.class l.held.instance l.fn.self l.n l.self l.row
