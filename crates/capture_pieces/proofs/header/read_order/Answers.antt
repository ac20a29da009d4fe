-- The first piece holds the header.
use Rattle.std.proofs.Common.{List, ap, ◌∙◌, sym}
use Rattle.capture.specs.Records.{header_of}
use Rattle.capture_pieces.proofs.Headers.{first_header}
use Rattle.capture_pieces.proofs.header.read_order.Goals as goal

pub returns : goal.returns
returns c =
    c.read_header-2.ensures ∙ ap (λ (l : List _). header_of l) c.deref.ensures.value
    ∙ first_header c.args.pieces.now c.in-Some.piece.now (sym c.in-Some.ensures.value) c.requires
