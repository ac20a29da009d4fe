use Rattle.std.proofs.Common.{◌≡◌, ◌+◌, ◌∷◌, [], ℕ, List, drop, sym, ap, subst, ◌∙◌}
use Rattle.std.specs.Prelude.{Ok}
use Rattle.std.proofs.lemmas.List.{drop_more}
use Rattle.script_lines.specs.Text.{lines_of}
use Rattle.bench_history.specs.declared.piece.Piece.{Piece}
use Rattle.bench_history.specs.declared.event.Event.{Event}
use Rattle.bench_history.specs.History.{IsWhyStopped, events_from, history_of}
use Rattle.bench_history.specs.Borders.{lines_in, own_of}
use Rattle.bench_history.proofs.Borders.{events_go_on, why_unread}
use Rattle.bench_history.proofs.pieces.Pieces.read_watched.Goals as goal

pub each_piece-preserved : goal.each_piece-preserved
each_piece-preserved g c =
    let pieces : List Piece = c.deref-piece-items.result.now in
    let i = c.each_piece.piece-index in
    let piece : Piece = c.piece-item.result in
    let behind : List Piece = drop (i + 1) pieces in
    let events : List Event = c.each_piece.reading.events.items in
    let is : drop i pieces ≡ piece ∷ behind = drop_more pieces i piece c.each_piece-test.true ∙ ap (λ (p : Piece). p ∷ behind) (sym c.piece-item.is) in
    let read : events_from events (lines_of (own_of piece)) ≡ Ok c.read.new.self.events.items =
    ap (λ (b : List ℕ). events_from events (lines_of b)) (sym c.own-in-each_piece.ensures) ∙ c.in-Ok.ensures.events in
    record {
      so_far =
          c.each_piece.invariant.so_far ∙ ap (λ (l : List Piece). events_from events (lines_in l)) is
          ∙ events_go_on events (lines_of (own_of piece)) (lines_in behind) c.read.new.self.events.items read;
      kept = c.in-Ok.ensures.seen;
    }

pub returns-in-Err-clause-fault : goal.returns-in-Err-clause-fault
returns-in-Err-clause-fault g c =
    let pieces : List Piece = c.deref-piece-items.result.now in
    let i = c.each_piece.piece-index in
    let piece : Piece = c.piece-item.result in
    let behind : List Piece = drop (i + 1) pieces in
    let events : List Event = c.each_piece.reading.events.items in
    let is : drop i pieces ≡ piece ∷ behind = drop_more pieces i piece c.each_piece-test.true ∙ ap (λ (p : Piece). p ∷ behind) (sym c.piece-item.is) in
    let text : history_of c.args.self.now ≡ events_from [] (lines_in pieces) =
    rw (← c.self.view_is) (ap (λ l. events_from [] l) c.self.invariant ∙ ap (λ (l : List Piece). events_from [] (lines_in l)) (sym c.deref-piece-items.ensures.value)) in
    why_unread c.args.self.now events (lines_of (own_of piece)) (lines_in behind) c.in-Err.fault
    (text ∙ c.each_piece.invariant.so_far ∙ ap (λ (l : List Piece). events_from events (lines_in l)) is)
    (subst (λ b. IsWhyStopped events (lines_of b) c.in-Err.fault) c.own-in-each_piece.ensures c.in-Err.ensures.fault)
