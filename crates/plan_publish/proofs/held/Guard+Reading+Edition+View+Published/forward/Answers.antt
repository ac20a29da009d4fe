use Rattle.plan_publish.proofs.held.Guard+Reading+Edition+View+Published.forward.Goals as goal

pub returns-clause-verdict : goal.returns-clause-verdict
returns-clause-verdict c = rw c.get.ensures at c.forward.ensures.verdict
