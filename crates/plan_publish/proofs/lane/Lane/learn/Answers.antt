use Rattle.std.proofs.Common.{ap, ◌∙◌}
use Rattle.plan_publish.specs.declared.history.Prefix.{Prefix}
use Rattle.plan_publish.proofs.lane.Lane.learn.Goals as goal

pub returns-then-begins-clause-before : goal.returns-then-begins-clause-before
returns-then-begins-clause-before c =
    let more = c.if-begins.ensures.lists.1 in
    (more.0, ap (λ (b : Prefix). b.seen.log) c.again.ensures ∙ more.1)
