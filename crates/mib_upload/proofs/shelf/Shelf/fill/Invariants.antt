use Rattle.mib_upload.proofs.Classes.{Fills}
use Rattle.mib_upload.proofs.shelf.Shelf.fill.Given as goal

abbrev pub invariant-loop-class : goal.invariant-loop-class
invariant-loop-class l = Fills l.mib.entities l.class-index l.self
