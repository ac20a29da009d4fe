-- What is attached to a port (ITU-T G.988, clauses 9.3.10 and 9.3.13).
use Rattle.std.specs.Prelude.{ℕ, Bool, ◌&&◌, ◌==◌, List, [], ◌∷◌, Option, Some, None, filter, map, min}
use Rattle.std.specs.Option.{option_map_or, option_or}
use Rattle.managed_entity.specs.Instance.{Instance, attribute_number}
use Rattle.mib_state.specs.Entities.{Entities}

-- the TP type of a mapper whose TP pointer is to a PPTP Ethernet UNI
abbrev pub tp_type_uni : ℕ
tp_type_uni = 1

-- the association type of a table whose pointer is to an 802.1p mapper
abbrev pub association_mapper : ℕ
association_mapper = 1

-- the association type of a table whose pointer is to a PPTP Ethernet UNI
abbrev pub association_uni : ℕ
association_uni = 2

-- the least of some numbers
abbrev pub least_of : List ℕ → Option ℕ
least_of [] = None
least_of (n ∷ rest) = Some (option_map_or (min n) (least_of rest) n)

-- the least number of the instances that a test holds of
abbrev pub least_instance : (Instance → Bool) → List Instance → Option ℕ
least_instance test instances = least_of (map (λ i. i.number) (filter test instances))

-- whether a mapper is one of a thing: by its TP type, attribute 13, and its TP pointer, attribute 1
abbrev pub is_mapper_of : ℕ → ℕ → Instance → Bool
is_mapper_of tp_type pointer i = attribute_number 13 i == tp_type && attribute_number 1 i == pointer

-- the mapper of a port: of those whose TP type is a PPTP Ethernet UNI, and that point to it the one of least number
abbrev pub mapper_of_port : Entities → ℕ → Option ℕ
mapper_of_port e port = least_instance (is_mapper_of tp_type_uni port) e.mappers

-- whether a table is one of a thing: by its association type, attribute 1, and its associated ME pointer, attribute 7
abbrev pub is_table_of : ℕ → ℕ → Instance → Bool
is_table_of association pointer i = attribute_number 1 i == association && attribute_number 7 i == pointer

-- the table of a mapper: of those whose association type is a mapper, and that point to it the one of least number
abbrev pub table_of_mapper : Entities → Option ℕ → Option ℕ
table_of_mapper e None = None
table_of_mapper e (Some mapper) = least_instance (is_table_of association_mapper mapper) e.vlans

-- the table of a port: of those whose association type is a PPTP Ethernet UNI, and that point to it the one of least number;
-- where there is none, that of its mapper
abbrev pub table_of_port : Entities → ℕ → Option ℕ
table_of_port e port = option_or (least_instance (is_table_of association_uni port) e.vlans) (table_of_mapper e (mapper_of_port e port))
