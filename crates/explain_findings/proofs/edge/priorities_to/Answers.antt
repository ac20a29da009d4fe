use Rattle.std.proofs.Common.{◌∙◌, ap}
use Rattle.explain_findings.specs.Graph.{priorities_from, priorities_to}
use Rattle.explain_findings.proofs.edge.priorities_to.Goals as goal

pub returns : goal.returns
unfolding priorities_to
returns c = λ n. c.priorities_of.ensures ∙ ap (priorities_from c.args.pointer 0) (c.pointers.ensures n)
