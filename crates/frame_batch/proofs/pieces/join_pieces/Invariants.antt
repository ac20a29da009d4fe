use Rattle.frame_batch.specs.Pieces.{AreJoined}
use Rattle.frame_batch.proofs.pieces.join_pieces.Given as goal

abbrev pub invariant-loop-piece : goal.invariant-loop-piece
invariant-loop-piece l = AreJoined l.yielded l.all.items
