-- A header with a fault.
use Rattle.std.proofs.Common.{List, ℕ, ap, drop, sym, ◌∙◌}
use Rattle.capture.specs.Records.{header_of}
use Rattle.capture_pieces.specs.Joined.{file_of}
use Rattle.capture_pieces.specs.declared.piece.Piece.{Piece}
use Rattle.capture_pieces.proofs.Cuts.{counted_none}
use Rattle.capture_pieces.proofs.pieces.Pieces.cut_frames.Goals as goal

pub returns-in_default : goal.returns-in_default
returns-in_default c =
    let held = c.read_order.ensures ∙ ap (λ (l : List Piece). header_of (file_of l)) c.deref.ensures.value ∙ ap (λ (l : List ℕ). header_of l) c.self.view_is in
    counted_none (header_of c.args.self.now) c.in_default.field-0 (drop 24 c.args.self.now) (sym held ∙ c.in_default.is)
