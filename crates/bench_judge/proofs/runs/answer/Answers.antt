use Rattle.std.proofs.Common.{ℕ, List, length, sym, ap, ◌∙◌, refl}
use Rattle.bench_judge.proofs.Leaves.{answer_left}
use Rattle.bench_judge.proofs.runs.answer.Goals as goal

pub returns-in-Forward : goal.returns-in-Forward
returns-in-Forward c =
    answer_left c.args.live.now c.args.port c.args.sent.now c.in-Forward.gem c.in-Forward.frame
    (record { gem = c.in-Forward.gem; tags = c.tags_of.result; rest = length c.rest.result.now })
    (sym c.forward.ensures.verdict ∙ c.in-Forward.is) refl (c.tags_of.ensures ∙ c.tags.ensures.value) (ap (λ (l : List ℕ). length l) c.rest.ensures)
