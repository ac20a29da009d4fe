-- Bounded, so that a wrong body is refused at once.
use Rattle.managed_entity.specs.Set.{set_instance}
use Rattle.managed_entity.proofs.SetInstance.{outcome_of_with_entries}
use Rattle.std.proofs.Common.{rules}
use Rattle.managed_entity.proofs.setting.check_set.Goals as goal

pub returns : goal.returns
unfolding set_instance
returns g c = search (rules, outcome_of_with_entries) fits 30
