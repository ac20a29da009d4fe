use Rattle.std.proofs.Common.{◌≡◌, ◌∙◌, ℕ, Option, Some, None, sym}
use Rattle.std.specs.Option.{option_or}
use Rattle.mib_state.specs.Entities.{Entities}
use Rattle.mib_state.specs.Attached.{is_table_of, least_instance, mapper_of_port, table_of_mapper}
use Rattle.explain.specs.declared.force.TableInForce.TheVariants.{OfMapper}
use Rattle.explain.specs.Force.{in_force_by}
use Rattle.explain.proofs.force.table_in_force.Goals as goal

-- a mapper's table is in force where no table points to the port
of_mapper : (e : Entities) (own mapper : Option ℕ) (m i : ℕ) → own ≡ None → mapper ≡ Some m → option_or own (table_of_mapper e mapper) ≡ Some i → OfMapper m i ≡ in_force_by e own mapper
of_mapper e own mapper m i none some is =
    let here = rw (none, some) at is in
    rw (none, some, here)

pub returns-in-Some-Some-clause-value : goal.returns-in-Some-Some-clause-value
returns-in-Some-Some-clause-value c =
    let e = c.args.mib.now.entities in
    let own = least_instance (is_table_of 2 c.args.port) e.vlans in
    let none : own ≡ None = cc in
    of_mapper e own (mapper_of_port e c.args.port) c.in-Some-Some.mapper c.in-Some-Some.instance none (sym c.mapper_of_port.ensures ∙ c.in-Some-Some.is-0) (sym c.table_of_port.ensures ∙ c.in-Some-Some.is-1)
