use Rattle.std.proofs.Common.{Some}
use Rattle.plan_publish.proofs.edition.EditionAbsorbAccepted.absorb_first.Goals as goal

pub returns-clause-absorbed : goal.returns-clause-absorbed
returns-clause-absorbed c = λ i. record { live = c.apply.ensures i; version = c.saturating_add-self.ensures i; base = c.again.ensures i; last = Some c.args.operation.now.request }
