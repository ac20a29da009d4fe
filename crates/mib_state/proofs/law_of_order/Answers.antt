-- Both parts are lemmas.
use Rattle.mib_state.proofs.Ascending.{classes_ascend, next_is_least}
use Rattle.mib_state.proofs.law_of_order.Goals as goal

pub returns : goal.returns
returns c = record { ascending = classes_ascend; least = next_is_least }
