use Rattle.std.proofs.Common.{◌∙◌, not, ap}
use Rattle.bench_record.proofs.Ends.{behind_same}
use Rattle.bench_record.proofs.spans.is_behind.Goals as goal

pub returns : goal.returns
returns c = λ captures are. ap not c.all_lasting-lasting.ensures ∙ behind_same c.args.time captures c.args.spans.now are
