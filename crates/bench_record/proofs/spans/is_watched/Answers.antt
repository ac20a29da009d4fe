use Rattle.std.proofs.Common.{◌∙◌}
use Rattle.bench_record.proofs.Ends.{watched_same}
use Rattle.bench_record.proofs.spans.is_watched.Goals as goal

pub returns : goal.returns
returns c = λ captures are. c.are_watching.ensures ∙ watched_same c.args.lost c.args.time captures c.args.spans.now are
