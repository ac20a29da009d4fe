use Rattle.std.proofs.Common.{◌≡◌, ◌∙◌, ◌-◌, ap, arith, replicate}
use Rattle.std.proofs.lemmas.Grind.{common_steps}
use Rattle.std.proofs.lemmas.List.{drop-replicate}
use Rattle.bench_record.proofs.writing.zeros_behind.Goals as goal

pub returns : goal.returns
returns c =
    let left : 9 - c.min.result ≡ 9 - c.args.digits = grind (arith, common_steps) in
    c.split_at.ensures.back ∙ drop-replicate c.min.result 9 48 ∙ ap (λ n. replicate n 48) left
