-- The file is all that there is.
use Rattle.std.proofs.Common.{◌∙◌, List, ℕ, ap}
use Rattle.bench_capture.specs.Formats.{reading_at}
use Rattle.bench_capture.proofs.Wholes.{whole_faulty, whole_opened}
use Rattle.bench_capture.proofs.frames.CaptureFrames.open.Goals as goal

pub returns-in-Ok : goal.returns-in-Ok
returns-in-Ok c =
    ap (λ (rest : List ℕ). reading_at c.in-Ok.format rest) c.split_at.ensures.back
    ∙ whole_opened c.args.file.now c.in-Ok.format c.in-Ok.length c.in-Ok.ensures.opens

pub returns-in-Err : goal.returns-in-Err
returns-in-Err c = whole_faulty c.args.file.now c.in-Err.fault c.in-Err.ensures.opens
