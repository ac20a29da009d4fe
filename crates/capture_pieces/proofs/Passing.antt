-- Records that are left of joined pieces: where they begin, and how one is passed.
use Rattle.std.proofs.Common.{◌≡◌, ◌≤◌, ◌<◌, ℕ, ◌-◌, List, [], ◌∷◌, ◌++◌, None, length, drop, arith, sym, ap, ◌∙◌, subst}
use Rattle.std.proofs.Math.Seq.{drop-nil}
use Rattle.capture.specs.declared.order.Order.{Order}
use Rattle.capture.specs.Records.{behind_first, first_frame, record_fault}
use Rattle.capture_pieces.specs.declared.piece.Piece.{Piece}
use Rattle.capture_pieces.specs.Joined.{AreJoined, file_of, longest}
use Rattle.capture_pieces.specs.Left.{BeginIn, BeginInFirst, left_of}
use Rattle.capture_pieces.proofs.Beginnings.{at_own, end_behind}
use Rattle.capture_pieces.proofs.Held.{fault_held, record_held}
use Rattle.capture_pieces.proofs.Places.{from_behind, from_place, past_own, reaches}

-- ---- from a place on

-- it is among the first piece's own bytes
pub place_found : (pieces : List Piece) (p : Piece) (behind : List Piece) (at : ℕ) (rest : List ℕ) → pieces ≡ p ∷ behind → AreJoined pieces → at < p.own → rest ≡ drop at p.bytes.items
    → BeginInFirst pieces rest × (left_of pieces rest ≡ drop at (file_of pieces))
place_found pieces p behind at rest is joined lt rest_is =
    let here : AreJoined (p ∷ behind) = subst (λ (l : List Piece). AreJoined l) is joined in
    let begin : BeginIn p rest = subst (λ (l : List ℕ). BeginIn p l) (sym rest_is) (at_own p (file_of behind) at here.0 lt) in (
      subst (λ (l : List Piece). BeginInFirst l rest) (sym is) (here, begin),
      ap (λ (l : List Piece). left_of l rest) is ∙ ap (λ (l : List ℕ). l ++ drop longest (file_of behind)) rest_is
          ∙ from_place p (file_of behind) at here.0 (omega (arith, lt, here.0.own)) ∙ ap (λ (l : List Piece). drop at (file_of l)) (sym is),
    )

-- it is behind them
pub place_past : (pieces : List Piece) (p : Piece) (behind : List Piece) (at : ℕ) → pieces ≡ p ∷ behind → AreJoined pieces → p.own ≤ at
    → AreJoined behind × (drop (at - p.own) (file_of behind) ≡ drop at (file_of pieces))
place_past pieces p behind at is joined le =
    let here : AreJoined (p ∷ behind) = subst (λ (l : List Piece). AreJoined l) is joined in
    (here.1, sym (past_own p (file_of behind) at here.0 le) ∙ ap (λ (l : List Piece). drop at (file_of l)) (sym is))

-- it is behind all pieces
pub place_none : (pieces : List Piece) (rest : List ℕ) (at : ℕ) → length pieces ≡ 0 → BeginInFirst pieces rest × (left_of pieces rest ≡ drop at (file_of pieces))
place_none [] rest at none = (tt, sym (drop-nil at))
place_none (p ∷ behind) rest at none = absurd (omega (arith, none))

-- ---- one record

module _ (order : Order) (pieces : List Piece) (rest : List ℕ) (p : Piece) (behind : List Piece) (is : pieces ≡ p ∷ behind) (begin : BeginInFirst pieces rest) where
  -- what the first piece doesn't hold
  abbrev others : List ℕ
  others = drop longest (file_of behind)

  here : BeginInFirst (p ∷ behind) rest
  here = subst (λ (l : List Piece). BeginInFirst l rest) is begin

  whole_left : left_of pieces rest ≡ rest ++ others
  whole_left = ap (λ (l : List Piece). left_of l rest) is

  pub fault_there : record_fault order (left_of pieces rest) ≡ record_fault order rest
  fault_there = ap (λ (l : List ℕ). record_fault order l) whole_left ∙ fault_held order rest others (reaches p (file_of behind) rest here.0.0 here.1.own)

  pub frame_there : record_fault order rest ≡ None → first_frame order (left_of pieces rest) ≡ first_frame order rest
  frame_there whole = ap (λ (l : List ℕ). first_frame order l) whole_left ∙ (record_held order rest others whole).frame

  behind_there : (left : List ℕ) → record_fault order rest ≡ None → left ≡ behind_first order rest → behind_first order (left_of pieces rest) ≡ left ++ others
  behind_there left whole left_is =
      ap (λ (l : List ℕ). behind_first order l) whole_left ∙ (record_held order rest others whole).behind ∙ ap (λ (l : List ℕ). l ++ others) (sym left_is)

  -- the next record begins in the same piece
  pub stays : (left : List ℕ) → record_fault order rest ≡ None → left ≡ behind_first order rest → length left < length rest → length p.bytes.items - p.own < length left
      → BeginInFirst pieces left × (left_of pieces left ≡ behind_first order (left_of pieces rest))
  stays left whole left_is shorter long =
      let begins : BeginIn p left = record { end = end_behind order p rest left here.1 left_is; within = omega (arith, shorter, here.1.within); own = long } in (
        subst (λ (l : List Piece). BeginInFirst l left) (sym is) (here.0, begins),
        ap (λ (l : List Piece). left_of l left) is ∙ sym (behind_there left whole left_is),
      )

  -- it begins in a later one
  pub goes_on : (left : List ℕ) → record_fault order rest ≡ None → left ≡ behind_first order rest → length left ≤ length p.bytes.items - p.own
      → AreJoined behind × (drop (length p.bytes.items - p.own - length left) (file_of behind) ≡ behind_first order (left_of pieces rest))
  goes_on left whole left_is short = (
    here.0.1,
    sym (from_behind p (file_of behind) left here.0.0 (end_behind order p rest left here.1 left_is) short) ∙ sym (behind_there left whole left_is),
  )
