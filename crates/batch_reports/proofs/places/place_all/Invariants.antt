use Rattle.std.proofs.Common.{vec_len}
use Rattle.batch_reports.specs.Places.{Fits}
use Rattle.batch_reports.proofs.places.place_all.Given as goal

abbrev pub invariant-loop-item : goal.invariant-loop-item
invariant-loop-item g l = Fits g.T.Numbered.number (vec_len l.fn.slots) l.yielded l.slots.items
