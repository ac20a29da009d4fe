-- Each turn puts one piece more in front.
use Rattle.std.proofs.Common.{◌≡◌, ◌++◌, ◌⊎◌, ℕ, List, [], ◌∷◌, inl, inr, sym, ap, ◌∙◌, subst, append_assoc, Vec, Global}
use Rattle.std.specs.Prelude.{reverse}
use Rattle.std.specs.List.{flat_map}
use Rattle.std.proofs.lemmas.List.{reverse-append, append-nil}
use Rattle.std.proofs.lemmas.Grind.{flat_map-append}
use Rattle.bench_history.specs.declared.piece.Piece.{Piece}
use Rattle.bench_history.specs.Borders.{AreWhole, IsEnded, IsWhole, lines_in, own_of, text_of}
use Rattle.bench_history.proofs.Borders.{border_on, whole, whole_more}
use Rattle.bench_history.proofs.joining.joined.Goals as goal

abbrev bytes_of : Vec ℕ Global → List ℕ
bytes_of part = part.items

pub loop-part-preserved : goal.loop-part-preserved
loop-part-preserved c =
    let before : List Piece = c.loop-part.pieces.items in
    let done : List ℕ = text_of (reverse before) in
    let rest : List ℕ = c.loop-part.rest.items in
    let part = c.in-Some.part in
    let left = c.pop.new.self.items in
    let line : List ℕ = c.in_ok-line.line.items in
    let piece : Piece = c.in_ok-line.piece in
    let own : List ℕ = own_of piece in
    let is = c.loop-part.invariant in
    let turned : reverse c.push.new.self.items ≡ piece ∷ reverse before = ap (λ (l : List Piece). reverse l) c.in_ok-push.ensures.items ∙ reverse-append before (piece ∷ []) in
    let more : text_of (reverse c.push.new.self.items) ≡ own ++ done = ap (λ (l : List Piece). text_of l) turned in
    let popped : c.loop-part.left.items ≡ left ++ part ∷ [] = c.in-Some.ensures.items in
    let parts : flat_map bytes_of (left ++ part ∷ []) ≡ flat_map bytes_of left ++ part.items =
    flat_map-append bytes_of left (part ∷ []) ∙ ap (λ (l : List ℕ). flat_map bytes_of left ++ l) (append-nil part.items) in
    let cut : line ++ own ≡ part.items ++ rest = c.in_ok-line.ensures.bytes ∙ ap (λ (l : List ℕ). part.items ++ l) c.deref.ensures.value in
    let both : IsEnded rest → IsEnded line × IsWhole own = λ ended. c.in_ok-line.ensures.ended (subst (λ (l : List ℕ). IsEnded l) (sym c.deref.ensures.value) ended) in
    let border : done ≡ [] ⊎ IsWhole own = elim is.border [ inl none ↦ inl none | inr ended ↦ inr (both ended).1 ] in
    record {
      text = ap (λ (l : List ℕ). flat_map bytes_of left ++ (line ++ l)) more
          ∙ ap (λ (l : List ℕ). flat_map bytes_of left ++ l) (sym (append_assoc line own done) ∙ ap (λ (l : List ℕ). l ++ done) cut ∙ append_assoc part.items rest done)
          ∙ sym (append_assoc (flat_map bytes_of left) part.items (rest ++ done))
          ∙ ap (λ (l : List ℕ). l ++ (rest ++ done)) (sym parts)
          ∙ ap (λ (l : List (Vec ℕ Global)). flat_map bytes_of l ++ (rest ++ done)) (sym popped)
          ∙ is.text;
      whole = subst (λ (l : List Piece). AreWhole l) (sym turned) (whole_more own done (lines_in (reverse before)) is.whole border);
      border = subst (λ (l : List ℕ). (l ≡ []) ⊎ IsEnded line) (sym more) (border_on own done line rest both c.in_ok-line.ensures.alone is.border);
    }

pub returns-clause-whole : goal.returns-clause-whole
returns-clause-whole c =
    let before : List Piece = c.loop-part.pieces.items in
    let done : List ℕ = text_of (reverse before) in
    let rest : List ℕ = c.loop-part.rest.items in
    let is = c.loop-part.invariant in
    let border : done ≡ [] ⊎ IsWhole rest = elim is.border [ inl none ↦ inl none | inr ended ↦ inr (whole rest ended) ] in
    let turned = c.reverse.ensures.items ∙ ap (λ (l : List Piece). reverse l) c.in_ok-push-2.ensures.items ∙ reverse-append before _ in
    subst (λ (l : List Piece). AreWhole l) (sym turned) (whole_more rest done (lines_in (reverse before)) is.whole border)
