-- The findings about the managed entities (ITU-T G.988, clause 9).
use Rattle.std.specs.Prelude.{ℕ, Bool, false, ◌&&◌, List, [], ◌∷◌, ◌++◌, Option, Some, None, Result, Ok, Err, if◌then◌else◌, ◌==◌, is_none, map}
use Rattle.std.specs.List.{filter_map, flat_map, list_any}
use Rattle.std.specs.List as list
use Rattle.std.specs.Option.{option_and_then, option_map_or}
use Rattle.pmapper.specs.Mapper.{pointer_of}
use Rattle.managed_entity.specs.declared.class.Class.{Class}
use Rattle.managed_entity.specs.declared.class.Class.TheVariants as class
use Rattle.managed_entity.specs.Class.{class_number}
use Rattle.managed_entity.specs.Instance.{Instance, attribute_number}
use Rattle.mib_state.specs.Entities.{Entities, find, instances_of}
use Rattle.mib_state.specs.Attached.{association_mapper, association_uni, is_table_of, least_instance, mapper_of_port, table_of_port}
use Rattle.frame_meaning.specs.declared.reason.Reason.{Reason}
use Rattle.frame_meaning.specs.Meaning.{carries_upstream, gem_port_of, pointers_at}
use Rattle.explain.specs.Order.{tried_order}
use Rattle.explain.specs.Covers.{shadow_of}
use Rattle.explain_findings.specs.declared.finding.Finding.{Finding}
use Rattle.explain_findings.specs.declared.finding.Finding.TheVariants as finding
use Rattle.explain_findings.specs.Reach.{numbers, port_of_mapper, port_of_table, priorities, reached_gem_ports, reached_mappers, reached_points, reached_tables}
use Rattle.explain_findings.specs.Drops.{port_drops}

-- those that there are
abbrev pub found : List (Option Finding) → List Finding
found findings = filter_map (λ f. f) findings

-- a number, if it is another one
abbrev pub another : Option ℕ → ℕ → Option ℕ
another None n = None
another (Some other) n = if other == n then None else Some other

-- it is this number
abbrev pub is_number : ℕ → Option ℕ → Bool
is_number n None = false
is_number n (Some other) = other == n

-- an instance that isn't among those that are reached
abbrev pub unreached : Class → ℕ → List ℕ → Option Finding
unreached c n among = if list_any (λ m. m == n) among then None else Some (finding.Unreached c n)

-- ---- of a mapper (clause 9.3.10)

abbrev pub second_mapper_by : ℕ → ℕ → Option ℕ → Option Finding
second_mapper_by n port None = None
second_mapper_by n port (Some other) = Some (finding.SecondMapper n port other)

-- another mapper is in force at its port
abbrev pub second_mapper : Entities → Instance → Option Finding
second_mapper e mapper =
    option_and_then (λ port. second_mapper_by mapper.number port (another (mapper_of_port e port) mapper.number)) (port_of_mapper mapper)

-- what is found of a port stands with its mapper
abbrev pub drops_at_mapper : Entities → Instance → Option Finding
drops_at_mapper e mapper =
    option_and_then (λ port. if is_number mapper.number (mapper_of_port e port) then port_drops e port else None) (port_of_mapper mapper)

-- there is no GEM port for the frames of a priority
abbrev pub uncarried_by : ℕ → ℕ → Result ℕ Reason → Option Finding
uncarried_by n priority (Ok id) = None
uncarried_by n priority (Err reason) = Some (finding.UncarriedPriority n priority reason)

-- why the frames of a priority are dropped, by its pointer
abbrev pub pointer_finding : Entities → Instance → ℕ → Option ℕ → Option Finding
pointer_finding e mapper priority None = Some (finding.NullPointer mapper.number priority)
pointer_finding e mapper priority (Some pointer) =
    if is_none (find pointer e.interworks) then Some (finding.MissingInterwork mapper.number priority pointer)
    else uncarried_by mapper.number priority (gem_port_of e mapper priority)

abbrev pub priority_finding : Entities → Instance → ℕ → Option Finding
priority_finding e mapper priority = pointer_finding e mapper priority (pointer_of (pointers_at mapper) priority)

abbrev pub mapper_findings : Entities → Instance → List Finding
mapper_findings e mapper =
    found (second_mapper e mapper ∷ drops_at_mapper e mapper ∷ [])
    ++ (found (map (priority_finding e mapper) priorities)
    ++ found (unreached class.Mapper mapper.number (reached_mappers e) ∷ []))

-- ---- of a table (clause 9.3.13)

-- the port of a mapper that is in force there
abbrev pub port_in_force : Entities → ℕ → Option ℕ
port_in_force e mapper =
    option_and_then (λ port. if is_number mapper (mapper_of_port e port) then Some port else None)
    (option_and_then port_of_mapper (find mapper e.mappers))

-- the port to which a table points, or to whose mapper
abbrev pub port_by_table : Entities → Instance → Option ℕ
port_by_table e table =
    if attribute_number 1 table == association_uni then Some (attribute_number 7 table)
    else (if attribute_number 1 table == association_mapper then port_in_force e (attribute_number 7 table) else None)

abbrev pub second_table_by : ℕ → ℕ → Option ℕ → Option Finding
second_table_by n port None = None
second_table_by n port (Some other) = Some (finding.SecondTable n port other)

-- another table is in force at its port
abbrev pub second_table : Entities → Instance → Option Finding
second_table e table =
    option_and_then (λ port. second_table_by table.number port (another (table_of_port e port) table.number)) (port_by_table e table)

-- its pointer leads to no mapper
abbrev pub missing_mapper : Entities → Instance → Option Finding
missing_mapper e table =
    if attribute_number 1 table == association_mapper && is_none (find (attribute_number 7 table) e.mappers)
    then Some (finding.MissingMapper table.number (attribute_number 7 table)) else None

-- it is the table of a port that has no mapper
abbrev pub is_alone_at : Entities → ℕ → ℕ → Bool
is_alone_at e n port = is_number n (least_instance (is_table_of association_uni port) e.vlans) && is_none (mapper_of_port e port)

-- what is found of a port without a mapper stands with its table
abbrev pub drops_at_table : Entities → Instance → Option Finding
drops_at_table e table =
    option_and_then (λ port. if is_alone_at e table.number port then port_drops e port else None) (port_of_table table)

abbrev pub unused_by : ℕ → ℕ → Option ℕ → Option Finding
unused_by n place None = None
unused_by n place (Some other) = Some (finding.UnusedEntry n place other)

-- the entry at a place is never used
abbrev pub unused_entry : ℕ → List (List ℕ) → ℕ → Option Finding
unused_entry n entries place = unused_by n place (shadow_of entries place)

-- the entries stand in the order in which they are tried
abbrev pub table_findings : Entities → Instance → List Finding
table_findings e table =
    found (second_table e table ∷ missing_mapper e table ∷ drops_at_table e table ∷ [])
    ++ (filter_map (unused_entry table.number table.entries) (tried_order table.entries)
    ++ found (unreached class.Vlan table.number (reached_tables e) ∷ []))

-- ---- of a GEM interworking termination point (clause 9.2.4)

-- its pointer leads to no GEM port network CTP
abbrev pub missing_gem_port : Entities → Instance → Option Finding
missing_gem_port e point =
    if is_none (find (attribute_number 1 point) e.gem_ports)
    then Some (finding.MissingGemPort point.number (attribute_number 1 point)) else None

-- the interworking option, attribute 2, of a point whose service profile is an 802.1p mapper
abbrev pub option_mapper : ℕ
option_mapper = 5

-- its service profile pointer, attribute 3, is that of an 802.1p mapper, and leads to none
abbrev pub missing_service_profile : Entities → Instance → Option Finding
missing_service_profile e point =
    if attribute_number 2 point == option_mapper && is_none (find (attribute_number 3 point) e.mappers)
    then Some (finding.MissingServiceProfile point.number (attribute_number 3 point)) else None

abbrev pub interwork_findings : Entities → Instance → List Finding
interwork_findings e point =
    found (missing_gem_port e point ∷ missing_service_profile e point ∷ unreached class.Interwork point.number (reached_points e) ∷ [])

-- ---- of a GEM port network CTP (clause 9.2.3)

-- it doesn't carry frames upstream
abbrev pub not_upstream : Instance → Option Finding
not_upstream gem = if carries_upstream gem then None else Some (finding.NotUpstream gem.number (attribute_number 3 gem))

-- the GEM port network CTP of a number has a port-ID
abbrev pub has_port_id : Entities → ℕ → ℕ → Bool
has_port_id e id n = option_map_or (λ gem. attribute_number 1 gem == id) (find n e.gem_ports) false

-- the first GEM port network CTP that has a port-ID
abbrev pub first_of_port_id : Entities → ℕ → Option ℕ
first_of_port_id e id = list.find (has_port_id e id) (numbers e.gem_ports)

abbrev pub shared_by : ℕ → ℕ → Option ℕ → Option Finding
shared_by n id None = None
shared_by n id (Some first) = Some (finding.SharedPortId n id first)

-- another one has its port-ID, before it
abbrev pub shared_port_id : Entities → Instance → Option Finding
shared_port_id e gem =
    shared_by gem.number (attribute_number 1 gem) (another (first_of_port_id e (attribute_number 1 gem)) gem.number)

abbrev pub gem_port_findings : Entities → Instance → List Finding
gem_port_findings e gem =
    found (not_upstream gem ∷ shared_port_id e gem ∷ unreached class.GemPort gem.number (reached_gem_ports e) ∷ [])

-- ---- of all

abbrev pub findings_of : Entities → Class → Instance → List Finding
findings_of e class.OnuData i = []
findings_of e class.Mapper i = mapper_findings e i
findings_of e class.Vlan i = table_findings e i
findings_of e class.Interwork i = interwork_findings e i
findings_of e class.GemPort i = gem_port_findings e i

-- the findings of the instance of a number
unfoldable pub instance_findings : Entities → Class → ℕ → List Finding
instance_findings e c n = option_map_or (findings_of e c) (find n (instances_of e (class_number c))) []

unfoldable pub class_findings : Entities → Class → List Finding
class_findings e c = flat_map (instance_findings e c) (numbers (instances_of e (class_number c)))

-- by ascending class, and those of a class by ascending instance
unfoldable pub findings : Entities → List Finding
findings e = flat_map (class_findings e) (class.Mapper ∷ class.Vlan ∷ class.Interwork ∷ class.GemPort ∷ [])
