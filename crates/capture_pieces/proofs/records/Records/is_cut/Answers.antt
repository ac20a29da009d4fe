-- The lengths stand in what the piece holds.
use Rattle.std.proofs.Common.{◌∙◌, ℕ, List, ap, sym}
use Rattle.capture.specs.Records.{record_fault}
use Rattle.capture_pieces.specs.CutFrames.{is_cut}
use Rattle.capture_pieces.proofs.Cuts.{cut_there}
use Rattle.capture_pieces.proofs.records.Records.is_cut.Goals as goal

pub returns : goal.returns
returns c = λ whole.
    let seen = ap (λ (l : List ℕ). record_fault c.args.order l) c.self.view_is ∙ whole in
    let there = cut_there c.args.order c.self.inside.pieces.now c.self.inside.rest.now c.self.invariant seen in
    c.is_cut.ensures there.0 ∙ sym there.1 ∙ ap (λ (l : List ℕ). is_cut c.args.order l) c.self.view_is
