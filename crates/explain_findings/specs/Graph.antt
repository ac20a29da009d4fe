-- The managed entities as a graph: what is shown, an edge for each pointer, and what is in force (ITU-T G.988, clauses 9.3.13,
-- 9.3.10, 9.2.4 and 9.2.3).
use Rattle.std.specs.Prelude.{ℕ, ◌+◌, Bool, true, false, List, [], ◌∷◌, ◌++◌, Option, Some, None, if◌then◌else◌, ◌==◌, fold, is_none, map, option_map}
use Rattle.std.specs.List.{filter_map, flat_map, list_any}
use Rattle.std.specs.Option.{option_and_then, option_map_or}
use Rattle.pmapper.specs.Mapper.{pointer_of}
use Rattle.managed_entity.specs.Instance.{Instance, attribute_number}
use Rattle.mib_state.specs.Entities.{Entities, find}
use Rattle.mib_state.specs.Attached.{association_mapper, association_uni}
use Rattle.frame_meaning.specs.Meaning.{pointers_at}
use Rattle.explain_findings.specs.declared.graph.NodeKind.{NodeKind}
use Rattle.explain_findings.specs.declared.graph.NodeKind.TheVariants as kind
use Rattle.explain_findings.specs.declared.graph.Node.{Node}
use Rattle.explain_findings.specs.declared.graph.GraphNode.{GraphNode}
use Rattle.explain_findings.specs.declared.graph.Edge.{Edge}
use Rattle.explain_findings.specs.Reach.{numbers, port_of_mapper, ports, priorities, reach_from, reached_mappers, reached_tables}
use Rattle.explain_findings.specs.Findings.{is_number}

-- ---- what is shown

-- one more number, if it isn't among them
abbrev pub add : List ℕ → ℕ → List ℕ
add seen n = if list_any (λ m. m == n) seen then seen else seen ++ n ∷ []

-- each number once, where it comes first
unfoldable pub distinct : List ℕ → List ℕ
distinct list = fold add [] list

-- the ports, and the numbers of the instances of each class
pub record Shown : Type 0 where
  pub ports : List ℕ
  pub tables : List ℕ
  pub mappers : List ℕ
  pub points : List ℕ
  pub gem_ports : List ℕ

-- everything, or what a port's pointers lead to
abbrev pub shown_of : Entities → Option ℕ → Shown
shown_of e None =
    record {
      ports = distinct (ports e);
      tables = numbers e.vlans;
      mappers = numbers e.mappers;
      points = numbers e.interworks;
      gem_ports = numbers e.gem_ports;
    }
shown_of e (Some port) =
    let reached = reach_from e (port ∷ []) in
    record {
      ports = port ∷ [];
      tables = reached.tables;
      mappers = reached.mappers;
      points = distinct reached.points;
      gem_ports = distinct reached.gem_ports;
    }

-- ---- nodes

-- a table or a mapper is in force at some port; of the others that isn't asked
abbrev pub in_force : Entities → NodeKind → ℕ → Bool
in_force e kind.Port n = true
in_force e kind.Table n = list_any (λ m. m == n) (reached_tables e)
in_force e kind.Mapper n = list_any (λ m. m == n) (reached_mappers e)
in_force e kind.Interwork n = true
in_force e kind.GemPort n = true

abbrev pub node : NodeKind → ℕ → Node
node k n = record { kind = k; number = n }

abbrev pub graph_node : Entities → NodeKind → ℕ → GraphNode
graph_node e k n = record { node = node k n; in_force = in_force e k n }

unfoldable pub nodes : Entities → Shown → List GraphNode
nodes e shown =
    map (graph_node e kind.Port) shown.ports
    ++ (map (graph_node e kind.Table) shown.tables
    ++ (map (graph_node e kind.Mapper) shown.mappers
    ++ (map (graph_node e kind.Interwork) shown.points
    ++ map (graph_node e kind.GemPort) shown.gem_ports)))

-- ---- edges

-- an edge without priorities
abbrev pub plain_edge : Node → Node → Bool → Edge
plain_edge from to missing = record { from = from; to = to; priorities = record { items = [] }; is_missing = missing }

-- the priorities of the pointers that are this one, where the first has priority p
abbrev pub priorities_from : ℕ → ℕ → List (Option ℕ) → List ℕ
priorities_from pointer p [] = []
priorities_from pointer p (o ∷ rest) =
    if is_number pointer o then p ∷ priorities_from pointer (p + 1) rest else priorities_from pointer (p + 1) rest

-- the priorities whose pointer leads to a GEM interworking termination point
unfoldable pub priorities_to : Instance → ℕ → List ℕ
priorities_to mapper pointer = priorities_from pointer 0 (map (pointer_of (pointers_at mapper)) priorities)

-- they begin with this one
abbrev pub begins_with : ℕ → List ℕ → Bool
begins_with p [] = false
begins_with p (q ∷ rest) = q == p

-- the edge to a GEM interworking termination point, which is one for all priorities that lead there
abbrev pub joined_edge : Entities → Instance → ℕ → Edge
joined_edge e mapper pointer =
    record {
      from = node kind.Mapper mapper.number;
      to = node kind.Interwork pointer;
      priorities = record { items = priorities_to mapper pointer };
      is_missing = is_none (find pointer e.interworks);
    }

-- it stands at the first of its priorities
abbrev pub priority_edge_by : Entities → Instance → ℕ → Option ℕ → Option Edge
priority_edge_by e mapper p None = None
priority_edge_by e mapper p (Some pointer) = if begins_with p (priorities_to mapper pointer) then Some (joined_edge e mapper pointer) else None

abbrev pub priority_edge : Entities → Instance → ℕ → Option Edge
priority_edge e mapper p = priority_edge_by e mapper p (pointer_of (pointers_at mapper) p)

-- the edge to its port
abbrev pub port_edge : Instance → Option Edge
port_edge mapper = option_map (λ port. plain_edge (node kind.Mapper mapper.number) (node kind.Port port) false) (port_of_mapper mapper)

-- those that there are
abbrev pub present : List (Option Edge) → List Edge
present edges = filter_map (λ edge. edge) edges

abbrev pub mapper_edges : Entities → Instance → List Edge
mapper_edges e mapper = present (port_edge mapper ∷ []) ++ filter_map (priority_edge e mapper) priorities

-- the edge of a table, to its port or to its mapper
abbrev pub table_edge : Entities → Instance → Option Edge
table_edge e table =
    if attribute_number 1 table == association_uni then Some (plain_edge (node kind.Table table.number) (node kind.Port (attribute_number 7 table)) false)
    else (if attribute_number 1 table == association_mapper
    then Some (plain_edge (node kind.Table table.number) (node kind.Mapper (attribute_number 7 table)) (is_none (find (attribute_number 7 table) e.mappers)))
    else None)

-- the edge of a GEM interworking termination point
abbrev pub interwork_edge : Entities → Instance → Edge
interwork_edge e point =
    plain_edge (node kind.Interwork point.number) (node kind.GemPort (attribute_number 1 point)) (is_none (find (attribute_number 1 point) e.gem_ports))

-- of the instances of these numbers
abbrev pub table_edge_of : Entities → ℕ → Option Edge
table_edge_of e n = option_and_then (table_edge e) (find n e.vlans)

abbrev pub mapper_edges_of : Entities → ℕ → List Edge
mapper_edges_of e n = option_map_or (mapper_edges e) (find n e.mappers) []

abbrev pub interwork_edge_of : Entities → ℕ → Option Edge
interwork_edge_of e n = option_map (interwork_edge e) (find n e.interworks)

unfoldable pub edges : Entities → Shown → List Edge
edges e shown =
    filter_map (table_edge_of e) shown.tables
    ++ (flat_map (mapper_edges_of e) shown.mappers ++ filter_map (interwork_edge_of e) shown.points)
