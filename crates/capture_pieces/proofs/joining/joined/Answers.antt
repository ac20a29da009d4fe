-- Each turn puts one piece more in front.
use Rattle.std.proofs.Common.{◌≡◌, ◌++◌, ℕ, List, [], ◌∷◌, take, sym, ap, ◌∙◌, subst, append_assoc, Vec, Global, arith}
use Rattle.std.specs.Prelude.{reverse}
use Rattle.std.specs.List.{flat_map}
use Rattle.std.proofs.lemmas.List.{reverse-append, append-nil}
use Rattle.std.proofs.lemmas.Grind.{flat_map-append}
use Rattle.capture_pieces.specs.declared.piece.Piece.{Piece}
use Rattle.capture_pieces.specs.Joined.{AreJoined, Holds, file_of, longest, own_of}
use Rattle.capture_pieces.proofs.Fronts.{take_front}
use Rattle.capture_pieces.proofs.joining.joined.Goals as goal

abbrev bytes_of : Vec ℕ Global → List ℕ
bytes_of part = part.items

pub loop-part-preserved : goal.loop-part-preserved
loop-part-preserved c =
    let before : List Piece = c.loop-part.pieces.items in
    let done : List ℕ = file_of (reverse before) in
    let part = c.in-Some.part in
    let left = c.pop.new.self.items in
    let piece : Piece = c.in_ok-piece.piece in
    let holds : Holds piece done = c.in_ok-piece.ensures.holds done (c.deref.ensures.value ∙ c.loop-part.invariant.front) in
    let own : own_of piece ≡ part.items = c.in_ok-piece.ensures.own in
    let turned : reverse c.push.new.self.items ≡ piece ∷ reverse before = ap (λ (l : List Piece). reverse l) c.in_ok-push.ensures.items ∙ reverse-append before (piece ∷ []) in
    let more : file_of (reverse c.push.new.self.items) ≡ own_of piece ++ done = ap (λ (l : List Piece). file_of l) turned in
    let popped : c.loop-part.left.items ≡ left ++ part ∷ [] = c.in-Some.ensures.items in
    let parts : flat_map bytes_of (left ++ part ∷ []) ≡ flat_map bytes_of left ++ part.items =
    flat_map-append bytes_of left (part ∷ []) ∙ ap (λ (l : List ℕ). flat_map bytes_of left ++ l) (append-nil part.items) in
    record {
      file = ap (λ (l : List ℕ). flat_map bytes_of left ++ l) (more ∙ ap (λ (l : List ℕ). l ++ done) own)
          ∙ sym (append_assoc (flat_map bytes_of left) part.items done)
          ∙ ap (λ (l : List ℕ). l ++ done) (sym parts)
          ∙ ap (λ (l : List (Vec ℕ Global)). flat_map bytes_of l ++ done) (sym popped)
          ∙ c.loop-part.invariant.file;
      joined = subst (λ (l : List Piece). AreJoined l) (sym turned) (holds, c.loop-part.invariant.joined);
      front = c.in_ok-front.ensures ∙ ap (λ (l : List ℕ). take longest l) (c.deref-in-Some.ensures.value ∙ holds.bytes)
          ∙ take_front longest longest (own_of piece) done (omega arith) ∙ ap (λ (l : List ℕ). take longest l) (sym more);
    }
