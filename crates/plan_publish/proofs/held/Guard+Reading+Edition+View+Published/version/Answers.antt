use Rattle.std.proofs.Common.{ap}
use Rattle.plan_publish.specs.declared.edition.Edition.{Edition}
use Rattle.plan_publish.proofs.held.Guard+Reading+Edition+View+Published.version.Goals as goal

pub returns : goal.returns
returns c = ap (λ (e : Edition). e.version) c.get.ensures
