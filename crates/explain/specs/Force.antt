-- Which table is in force at a port, and why (ITU-T G.988, clause 9.3.13).
use Rattle.std.specs.Prelude.{ℕ, Option, Some, None}
use Rattle.mib_state.specs.Entities.{Entities}
use Rattle.mib_state.specs.Attached.{association_uni, is_table_of, least_instance, mapper_of_port, table_of_mapper}
use Rattle.explain.specs.declared.force.TableInForce.{TableInForce}
use Rattle.explain.specs.declared.force.TableInForce.TheVariants.{NoTable, OfPort, OfMapper}

-- the table of a mapper, if it has one
abbrev pub of_mapper : ℕ → Option ℕ → TableInForce
of_mapper mapper None = NoTable
of_mapper mapper (Some instance) = OfMapper mapper instance

-- the table that points to the port; where there is none, that of the port's mapper
abbrev pub in_force_by : Entities → Option ℕ → Option ℕ → TableInForce
in_force_by e (Some instance) mapper = OfPort instance
in_force_by e None None = NoTable
in_force_by e None (Some mapper) = of_mapper mapper (table_of_mapper e (Some mapper))

abbrev pub table_in_force : Entities → ℕ → TableInForce
table_in_force e port = in_force_by e (least_instance (is_table_of association_uni port) e.vlans) (mapper_of_port e port)

-- the number of the table
abbrev pub number_in_force : TableInForce → Option ℕ
number_in_force NoTable = None
number_in_force (OfPort instance) = Some instance
number_in_force (OfMapper mapper instance) = Some instance
