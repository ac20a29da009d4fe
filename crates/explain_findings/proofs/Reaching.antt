-- Each step of an explanation comes by instances that pointers lead to from a port.
use Rattle.std.proofs.Common.{◌≡◌, ◌==◌, ℕ, Bool, true, false, ◌||◌, List, [], ◌∷◌, Option, Some, None, refl, ap}
use Rattle.std.specs.Prelude.{if◌then◌else◌, filter, map}
use Rattle.std.specs.List.{filter_map, list_any}
use Rattle.std.specs.Option.{option_or}
use Rattle.std.proofs.lemmas.Bool.{and_parts, eqb-true}
use Rattle.managed_entity.specs.Instance.{Instance, attribute_number}
use Rattle.mib_state.specs.Entities.{Entities}
use Rattle.mib_state.specs.Attached.{association_uni, is_mapper_of, is_table_of, least_instance, least_of, mapper_of_port, table_of_mapper, table_of_port, tp_type_uni}
use Rattle.explain_findings.specs.Reach.{port_of_mapper, port_of_table, ports, reached_mappers, reached_tables}
use Rattle.explain_findings.proofs.Lists.{has, has_given, has_left, has_mapped, has_right}

-- ---- the ports

-- where there is a least instance, one passes the test
some_passes : (test : Instance → Bool) (l : List Instance) (n : ℕ) → least_instance test l ≡ Some n → list_any test l ≡ true
some_passes test [] n is = cc
some_passes test (x ∷ l) n is = by_case (some_passes test l n) (test x) is
  where
    by_case : (least_instance test l ≡ Some n → list_any test l ≡ true) → (b : Bool) → least_of (map (λ i. i.number) (if b then x ∷ filter test l else filter test l)) ≡ Some n → (b || list_any test l) ≡ true
    by_case later true is = refl
    by_case later false is = later is

mapper_points : (q : ℕ) (i : Instance) → is_mapper_of tp_type_uni q i ≡ true → port_of_mapper i ≡ Some q
mapper_points q i is =
    let parts = and_parts (attribute_number 13 i == tp_type_uni) (attribute_number 1 i == q) is in
    rw parts.0 (ap Some (eqb-true (attribute_number 1 i) q parts.1))

table_points : (q : ℕ) (i : Instance) → is_table_of association_uni q i ≡ true → port_of_table i ≡ Some q
table_points q i is =
    let parts = and_parts (attribute_number 1 i == association_uni) (attribute_number 7 i == q) is in
    rw parts.0 (ap Some (eqb-true (attribute_number 7 i) q parts.1))

-- a port that has a mapper, or a table, is among them
pub port_of_a_mapper : (e : Entities) (q n : ℕ) → mapper_of_port e q ≡ Some n → has (ports e) q ≡ true
unfolding ports
port_of_a_mapper e q n is =
    has_left (filter_map port_of_mapper e.mappers) (filter_map port_of_table e.vlans) q
    (has_given (is_mapper_of tp_type_uni q) port_of_mapper q e.mappers (mapper_points q) (some_passes (is_mapper_of tp_type_uni q) e.mappers n is))

port_of_own_table : (e : Entities) (q n : ℕ) → least_instance (is_table_of association_uni q) e.vlans ≡ Some n → has (ports e) q ≡ true
unfolding ports
port_of_own_table e q n is =
    has_right (filter_map port_of_mapper e.mappers) (filter_map port_of_table e.vlans) q
    (has_given (is_table_of association_uni q) port_of_table q e.vlans (table_points q) (some_passes (is_table_of association_uni q) e.vlans n is))

pub port_of_a_table : (e : Entities) (q n : ℕ) → table_of_port e q ≡ Some n → has (ports e) q ≡ true
port_of_a_table e q n is = by_case (least_instance (is_table_of association_uni q) e.vlans) (mapper_of_port e q) refl refl is
  where
    by_case : (own mapper : Option ℕ) → least_instance (is_table_of association_uni q) e.vlans ≡ own → mapper_of_port e q ≡ mapper
        → option_or own (table_of_mapper e mapper) ≡ Some n → has (ports e) q ≡ true
    by_case (Some t) mapper own_is mapper_is is = port_of_own_table e q t own_is
    by_case None (Some m) own_is mapper_is is = port_of_a_mapper e q m mapper_is
    by_case None None own_is mapper_is is = cc

-- ---- the mappers and the tables

pub mapper_is_reached : (e : Entities) (q n : ℕ) → mapper_of_port e q ≡ Some n → has (reached_mappers e) n ≡ true
unfolding reached_mappers
mapper_is_reached e q n is = has_mapped (mapper_of_port e) (ports e) q n (port_of_a_mapper e q n is) is

pub table_is_reached : (e : Entities) (q n : ℕ) → table_of_port e q ≡ Some n → has (reached_tables e) n ≡ true
unfolding reached_tables
table_is_reached e q n is = has_mapped (table_of_port e) (ports e) q n (port_of_a_table e q n is) is
