use Rattle.std.proofs.Common.{◌∙◌, not, ap}
use Rattle.bench_record.proofs.Ends.{early_same}
use Rattle.bench_record.proofs.spans.is_early.Goals as goal

pub returns : goal.returns
returns c = λ captures are. ap not c.are_begun-begun.ensures ∙ early_same c.args.lost c.args.time captures c.args.spans.now are
