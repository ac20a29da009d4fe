use Rattle.std.proofs.Common.{refl}
use Rattle.plan_publish.proofs.lane.Lane.number.Goals as goal

pub returns : goal.returns
returns c = refl
