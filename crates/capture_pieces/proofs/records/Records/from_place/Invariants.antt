-- What is left begins at a place of the pieces that are left.
use Rattle.std.proofs.Common.{◌≡◌, drop, length}
use Rattle.capture_pieces.specs.Joined.{AreJoined, file_of}
use Rattle.capture_pieces.proofs.records.Records.from_place.Given as goal

abbrev pub invariant-loop-piece : goal.invariant-loop-piece
invariant-loop-piece l = record {
  joined : AreJoined l.pieces;
  left : drop l.at (file_of l.pieces) ≡ drop l.fn.place (file_of l.fn.all);
}

abbrev pub decreases-loop-piece : goal.decreases-loop-piece
decreases-loop-piece l = length l.pieces
