use Rattle.std.proofs.Common.{rules}
use Rattle.std.proofs.lemmas.Fn.{filter_same}
use Rattle.bench_record.proofs.matching.keep_open.Goals as goal

pub returns : goal.returns
returns c = λ lost time frames small earliest sent doubts. filter_same _ _ _ (λ x b f' k. search rules) _ _ c.retain.ensures.filtered
