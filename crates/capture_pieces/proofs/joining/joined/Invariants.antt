-- The parts that are left, and the pieces so far from the last on, are the file.
use Rattle.std.proofs.Common.{◌≡◌, ◌++◌, take, vec_len}
use Rattle.std.specs.Prelude.{reverse}
use Rattle.std.specs.List.{flat_map}
use Rattle.capture_pieces.specs.Joined.{AreJoined, file_of, longest}
use Rattle.capture_pieces.proofs.joining.joined.Given as goal

abbrev pub invariant-loop-part : goal.invariant-loop-part
invariant-loop-part l = record {
  file : flat_map (λ part. part.items) l.left.items ++ file_of (reverse l.pieces.items) ≡ flat_map (λ part. part.items) l.fn.parts.items;
  joined : AreJoined (reverse l.pieces.items);
  front : l.front.items ≡ take longest (file_of (reverse l.pieces.items));
}

abbrev pub decreases-loop-part : goal.decreases-loop-part
decreases-loop-part l = vec_len l.left
