use Rattle.std.proofs.Common.{arith, refl}
use Rattle.port_plan.proofs.Routing.{all_below, of_none}
use Rattle.port_plan.proofs.routes.Routes.none.Goals as goal

pub invariant_of-result : goal.invariant_of-result
invariant_of-result c = record { under_eight = λ place. all_below 65 0 place (omega arith) }

pub returns : goal.returns
returns c = λ e. of_none e _ refl refl
