-- Bytes that begin among a piece's own.
use Rattle.std.proofs.Common.{◌≡◌, ◌<◌, ℕ, ◌+◌, ◌-◌, List, length, drop, arith, sym, ap, ◌∙◌, length-drop}
use Rattle.std.proofs.lemmas.List.{drop-drop}
use Rattle.capture.specs.declared.order.Order.{Order}
use Rattle.capture.specs.Records.{behind_first, stored_length}
use Rattle.capture_pieces.specs.declared.piece.Piece.{Piece}
use Rattle.capture_pieces.specs.Joined.{Holds}
use Rattle.capture_pieces.specs.Left.{BeginIn}
use Rattle.capture_pieces.proofs.Places.{suffix_any}

-- those from a place among them on
pub at_own : (p : Piece) (behind : List ℕ) (at : ℕ) → Holds p behind → at < p.own → BeginIn p (drop at p.bytes.items)
at_own p behind at holds lt =
    let long : length (drop at p.bytes.items) ≡ length p.bytes.items - at = length-drop at p.bytes.items in
    record { end = suffix_any at p.bytes.items; within = omega (arith, long); own = omega (arith, long, lt, holds.own) }

-- behind a record that begins there they are the end of what the piece holds
pub end_behind : (order : Order) (p : Piece) (rest left : List ℕ) → BeginIn p rest → left ≡ behind_first order rest → left ≡ drop (length p.bytes.items - length left) p.bytes.items
end_behind order p rest left begins is =
    let bytes = p.bytes.items in
    let stored = stored_length order rest in
    let k : ℕ = length bytes - length rest in
    let n : ℕ = (k + 16) + stored in
    let at : left ≡ drop n bytes =
    is ∙ ap (λ (l : List ℕ). drop stored (drop 16 l)) begins.end ∙ ap (λ (l : List ℕ). drop stored l) (drop-drop 16 k bytes) ∙ drop-drop stored (k + 16) bytes in
    at ∙ suffix_any n bytes ∙ ap (λ (l : List ℕ). drop (length bytes - length l) bytes) (sym at)
