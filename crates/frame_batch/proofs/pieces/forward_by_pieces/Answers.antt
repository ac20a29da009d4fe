use Rattle.std.proofs.Common.{◌∙◌, ap}
use Rattle.rayon.specs.Lists.{chunks_of}
use Rattle.rayon.proofs.ListFacts.{IfOk-then}
use Rattle.rayon.proofs.ToStd.{chunks_of-concat}
use Rattle.batch_reports.specs.Batches.{meanings}
use Rattle.frame_batch.proofs.pieces.forward_by_pieces.Goals as goal

pub returns : goal.returns
returns g c =
    IfOk-then c.join_pieces.result _ _ c.join_pieces.ensures (λ v k.
    k.2 c.args.live.now c.args.port (chunks_of c.args.size c.args.frames.now) (rw k.1 c.in_ok-pieces.ensures)
    ∙ ap (meanings c.args.live.now c.args.port) (chunks_of-concat c.args.size c.args.frames.now c.requires))
