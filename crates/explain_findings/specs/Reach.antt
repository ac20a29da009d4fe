-- Which instances the pointers of the managed entities lead to from a port (ITU-T G.988, clauses 9.3.13, 9.3.10, 9.2.4 and 9.2.3).
use Rattle.std.specs.Prelude.{ℕ, List, [], ◌∷◌, ◌++◌, Option, Some, None, if◌then◌else◌, ◌==◌, map, option_map}
use Rattle.std.specs.List.{filter_map, flat_map}
use Rattle.std.specs.Option.{option_map_or}
use Rattle.pmapper.specs.Mapper.{pointer_of}
use Rattle.managed_entity.specs.Instance.{Instance, attribute_number}
use Rattle.mib_state.specs.Entities.{Entities, find}
use Rattle.mib_state.specs.Attached.{association_uni, mapper_of_port, table_of_port, tp_type_uni}
use Rattle.frame_meaning.specs.Meaning.{pointers_at}

-- the port that a mapper points to: its TP pointer, attribute 1, where its TP type, attribute 13, is a PPTP Ethernet UNI
abbrev pub port_of_mapper : Instance → Option ℕ
port_of_mapper mapper = if attribute_number 13 mapper == tp_type_uni then Some (attribute_number 1 mapper) else None

-- the port that a table points to: its associated ME pointer, attribute 7, where its association type, attribute 1, is a PPTP
-- Ethernet UNI
abbrev pub port_of_table : Instance → Option ℕ
port_of_table table = if attribute_number 1 table == association_uni then Some (attribute_number 7 table) else None

-- the ports that a mapper or a table points to; nothing is attached to another one
unfoldable pub ports : Entities → List ℕ
ports e = filter_map port_of_mapper e.mappers ++ filter_map port_of_table e.vlans

-- the mappers and the tables that are in force at a port
unfoldable pub reached_mappers : Entities → List ℕ
reached_mappers e = filter_map (mapper_of_port e) (ports e)

unfoldable pub reached_tables : Entities → List ℕ
reached_tables e = filter_map (table_of_port e) (ports e)

abbrev pub priorities : List ℕ
priorities = 0 ∷ 1 ∷ 2 ∷ 3 ∷ 4 ∷ 5 ∷ 6 ∷ 7 ∷ []

-- the pointers of a mapper that aren't null
abbrev pub set_pointers : Instance → List ℕ
set_pointers mapper = filter_map (pointer_of (pointers_at mapper)) priorities

abbrev pub pointers_of : Entities → ℕ → List ℕ
pointers_of e mapper = option_map_or set_pointers (find mapper e.mappers) []

-- the GEM interworking termination points that these mappers point to
unfoldable pub reached_points : Entities → List ℕ
reached_points e = flat_map (pointers_of e) (reached_mappers e)

-- the GEM port network CTP that a GEM interworking termination point points to
abbrev pub gem_port_pointer : Entities → ℕ → Option ℕ
gem_port_pointer e point = option_map (attribute_number 1) (find point e.interworks)

unfoldable pub reached_gem_ports : Entities → List ℕ
reached_gem_ports e = filter_map (gem_port_pointer e) (reached_points e)

-- the numbers of the instances of a class
abbrev pub numbers : List Instance → List ℕ
numbers instances = map (λ i. i.number) instances

-- all of these, and the numbers of all GEM port network CTPs
pub record Reached : Type 0 where
  pub tables : List ℕ
  pub mappers : List ℕ
  pub points : List ℕ
  pub gem_ports : List ℕ
  pub all_gem_ports : List ℕ

unfoldable pub reached : Entities → Reached
reached e =
    record {
      tables = reached_tables e;
      mappers = reached_mappers e;
      points = reached_points e;
      gem_ports = reached_gem_ports e;
      all_gem_ports = numbers e.gem_ports;
    }

-- the same of what pointers lead to from these ports
unfoldable pub reach_from : Entities → List ℕ → Reached
reach_from e at =
    let mappers = filter_map (mapper_of_port e) at in
    let points = flat_map (pointers_of e) mappers in
    record {
      tables = filter_map (table_of_port e) at;
      mappers = mappers;
      points = points;
      gem_ports = filter_map (gem_port_pointer e) points;
      all_gem_ports = numbers e.gem_ports;
    }
