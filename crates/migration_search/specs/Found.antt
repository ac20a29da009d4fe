-- What is found of a way between two configurations.
use Rattle.mib_state.specs.Entities.{Entities}
use Rattle.migration_check.specs.declared.aim.Aim.{Aim}
use Rattle.migration_check.specs.Migration.{IsMigration}
use Rattle.migration_search.specs.declared.found.Found.{Found as TheFound}
use Rattle.migration_search.specs.declared.found.Found.TheVariants.{Migration, NoWay}

-- requests that are found are a migration from the entities e to the entities f; where none are, nothing is said
abbrev pub IsFound : Aim → Entities → Entities → TheFound → Type 0
IsFound aim e f (Migration requests way) = IsMigration aim e requests.items f
IsFound aim e f (NoWay requests) = Unit {0}
