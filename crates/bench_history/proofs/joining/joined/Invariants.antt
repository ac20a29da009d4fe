-- The parts that are left, the line that may begin in them, and the pieces so far from the last on, are the text.
use Rattle.std.proofs.Common.{◌≡◌, ◌++◌, ◌⊎◌, [], vec_len}
use Rattle.std.specs.Prelude.{reverse}
use Rattle.std.specs.List.{flat_map}
use Rattle.bench_history.specs.Borders.{AreWhole, IsEnded, text_of}
use Rattle.bench_history.proofs.joining.joined.Given as goal

abbrev pub invariant-loop-part : goal.invariant-loop-part
invariant-loop-part l = record {
  text : flat_map (λ part. part.items) l.left.items ++ (l.rest.items ++ text_of (reverse l.pieces.items)) ≡ flat_map (λ part. part.items) l.fn.parts.items;
  whole : AreWhole (reverse l.pieces.items);
  border : text_of (reverse l.pieces.items) ≡ [] ⊎ IsEnded l.rest.items;
}

abbrev pub decreases-loop-part : goal.decreases-loop-part
decreases-loop-part l = vec_len l.left
