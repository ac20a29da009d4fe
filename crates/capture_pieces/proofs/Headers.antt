-- The header of a capture in pieces stands in the first piece.
use Rattle.std.proofs.Common.{◌≡◌, ◌≤◌, ◌<◌, ℕ, zero, List, [], ◌∷◌, ◌++◌, Some, length, take, drop, arith, sym, ap, ◌∙◌, append_assoc}
use Rattle.std.specs.List.{slice_get}
use Rattle.std.proofs.lemmas.List.{append-nil, length-take-le, take-append-drop}
use Rattle.capture.specs.Records.{header_of}
use Rattle.capture.proofs.Captures.{header_append}
use Rattle.capture_pieces.specs.declared.piece.Piece.{Piece}
use Rattle.capture_pieces.specs.Joined.{AreJoined, Holds, file_of, longest, own_of}
use Rattle.capture_pieces.proofs.Places.{from_place, holds_longest}

-- what stands behind 24 bytes doesn't count
header_more : (bytes more : List ℕ) → (0 < length more → 24 ≤ length bytes) → header_of (bytes ++ more) ≡ header_of bytes
header_more bytes [] reach = ap (λ (l : List ℕ). header_of l) (append-nil bytes)
header_more bytes (y ∷ more) reach =
    let long : 24 ≤ length bytes = reach (omega arith) in
    let whole : length (take 24 bytes) ≡ 24 = length-take-le 24 bytes long in
    let joined : take 24 bytes ++ drop 24 bytes ≡ bytes = take-append-drop 24 bytes in
    ap (λ (l : List ℕ). header_of (l ++ (y ∷ more))) (sym joined)
    ∙ ap (λ (l : List ℕ). header_of l) (append_assoc (take 24 bytes) (drop 24 bytes) (y ∷ more))
    ∙ header_append (take 24 bytes) (drop 24 bytes ++ (y ∷ more)) whole
    ∙ sym (header_append (take 24 bytes) (drop 24 bytes) whole)
    ∙ ap (λ (l : List ℕ). header_of l) joined

pub header_held : (p : Piece) (behind : List ℕ) → Holds p behind → header_of p.bytes.items ≡ header_of (own_of p ++ behind)
header_held p behind holds =
    sym (header_more p.bytes.items (drop longest behind) (λ some. omega (arith, holds_longest p behind holds some)))
    ∙ ap (λ (l : List ℕ). header_of l) (from_place p behind zero holds (omega arith))

pub first_header : (pieces : List Piece) (p : Piece) → slice_get pieces 0 ≡ Some p → AreJoined pieces → header_of p.bytes.items ≡ header_of (file_of pieces)
first_header [] p is joined = absurd (cc)
first_header (q ∷ behind) p is joined =
    let same : q ≡ p = cc in
    ap (λ (p : Piece). header_of p.bytes.items) (sym same) ∙ header_held q (file_of behind) joined.0
