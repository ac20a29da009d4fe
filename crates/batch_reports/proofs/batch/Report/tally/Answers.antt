use Rattle.std.proofs.Common.{refl}
use Rattle.batch_reports.proofs.batch.Report.tally.Goals as goal

pub returns : goal.returns
returns c = refl
