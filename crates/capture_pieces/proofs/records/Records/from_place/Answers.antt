-- The place is among the first piece's own bytes, or behind them.
use Rattle.std.proofs.Common.{◌≡◌, ◌∙◌, ℕ, List, ap, drop}
use Rattle.capture_pieces.proofs.Passing.{place_found, place_past}
use Rattle.capture_pieces.proofs.records.Records.from_place.Goals as goal

pub returns-then-at-piece : goal.returns-then-at-piece
returns-then-at-piece c =
    let at : ℕ = c.loop-piece.at in
    let rest : c.split_at.result.1.now ≡ drop at c.in-Some.piece.now.bytes.items =
    c.split_at.ensures.back ∙ ap (λ (l : List ℕ). drop at l) c.deref.ensures.value in
    (place_found c.loop-piece.pieces.now c.in-Some.piece.now c.in-Some.behind.now at c.split_at.result.1.now c.in-Some.ensures.cases.0 c.loop-piece.invariant.joined c.if-at-piece.true rest).1
    ∙ c.loop-piece.invariant.left

pub loop-piece-preserved : goal.loop-piece-preserved
loop-piece-preserved c =
    let past = place_past c.loop-piece.pieces.now c.in-Some.piece.now c.in-Some.behind.now c.loop-piece.at c.in-Some.ensures.cases.0 c.loop-piece.invariant.joined c.if-at-piece.false in
    record { joined = past.0; left = past.1 ∙ c.loop-piece.invariant.left }
