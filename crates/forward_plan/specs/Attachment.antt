-- What is attached to each port: its table and its mapper, by their places among the instances of their classes.
use Rattle.std.specs.Prelude.{◌≡◌, ◌<◌, ◌⊎◌, ℕ, List, Option, Some, None, map, slice_get}
use Rattle.std.specs.Option.{option_and_then, unwrap_or}
use Rattle.managed_entity.specs.Instance.{Instance, attribute_number}
use Rattle.mib_state.specs.Entities.{Entities, nothing, place_in}
use Rattle.mib_state.specs.Attached.{association_mapper, association_uni, mapper_of_port, table_of_port, tp_type_uni}
use Rattle.forward_plan.specs.declared.attached.Attached.{Attached}
use Rattle.forward_plan.specs.declared.naming.Naming.{Naming}
use Rattle.forward_plan.specs.declared.naming.Namings.{Namings}
use Rattle.forward_plan.specs.declared.ports.Ports.{Ports}
use Rattle.forward_plan.specs.Ports.{port_count}

-- the place where the instance of a number stands among others, and 255 for none
abbrev pub place_or_none : List Instance → Option ℕ → ℕ
place_or_none instances number = unwrap_or (option_and_then (λ n. place_in n instances) number) 255

-- what is attached to a port: its table and its mapper, by their places
abbrev pub attached_at : Entities → ℕ → Attached
attached_at e port =
    record { table = place_or_none e.vlans (table_of_port e port); mapper = place_or_none e.mappers (mapper_of_port e port) }

-- a list has what is attached to a port, at its place
abbrev pub IsAttachedIn : Entities → List Attached → ℕ → Type 0
IsAttachedIn e ports port = slice_get ports port ≡ Some (attached_at e port)

-- the same for each port
abbrev pub AreAttached : Entities → List Attached → Type 0
AreAttached e ports = (port : ℕ) → port < port_count → IsAttachedIn e ports port

-- the same for each port that has a mapper; for any other either that or nothing
abbrev pub AreMapped : Entities → List Attached → Type 0
AreMapped e ports = (port : ℕ) → port < port_count → IsAttachedIn e ports port ⊎ (mapper_of_port e port ≡ None) × IsAttachedIn nothing ports port

-- each port has what is attached to it, or what it had
abbrev pub AreAttachedOrKept : Entities → List Attached → List Attached → Type 0
AreAttachedOrKept e old new = (port : ℕ) → IsAttachedIn e new port ⊎ (slice_get new port ≡ slice_get old port)

-- ---- what instances say of where they are attached

-- a mapper: its TP type, attribute 13, and its TP pointer, attribute 1
abbrev pub mapper_naming : Instance → Naming
mapper_naming i = record { number = i.number; kind = attribute_number 13 i; to = attribute_number 1 i }

-- a table: its association type, attribute 1, and its associated ME pointer, attribute 7
abbrev pub table_naming : Instance → Naming
table_naming i = record { number = i.number; kind = attribute_number 1 i; to = attribute_number 7 i }

-- what the instances of both classes say, by their places
pub record AreNamings (e : Entities) (names : Namings) : Type 0 where
  pub mappers : names.mappers.items ≡ map mapper_naming e.mappers
  pub tables : names.tables.items ≡ map table_naming e.vlans

-- what is attached to each port, and what the instances say of it
pub record ArePorts (e : Entities) (ports : Ports) : Type 0 where
  pub attached : AreAttached e ports.attached.items
  pub names : AreNamings e ports.names

-- ---- the ports that one table is attached to

-- a mapper has a number, and points to a port: its TP type is that of a PPTP Ethernet UNI
pub record IsMapperOfPort (number : ℕ) (mapper : Naming) : Type 0 where
  pub numbered : mapper.number ≡ number
  pub of_port : mapper.kind ≡ tp_type_uni

-- the port that a table points to has what is attached to it; or those ports have it that the mapper points to to which it points
pub record AreOfTable (e : Entities) (mappers : List Naming) (table : Naming) (ports : List Attached) : Type 0 where
  pub own : table.kind ≡ association_uni → IsAttachedIn e ports table.to
  pub mapped : (place : ℕ) (mapper : Naming) → slice_get mappers place ≡ Some mapper → table.kind ≡ association_mapper → IsMapperOfPort table.to mapper → IsAttachedIn e ports mapper.to
