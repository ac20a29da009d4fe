-- Worked examples, computed.
use Rattle.std.proofs.Common.{◌≡◌, ℕ, List, [], ◌∷◌, ◌++◌, map, refl, true, false, None}
use Rattle.omci_msg.specs.declared.Request.{Request}
use Rattle.omci_msg.specs.declared.Action.{Action}
use Rattle.omci_msg.specs.declared.Action.TheVariants.{Create, Delete}
use Rattle.managed_entity.specs.declared.class.Class.TheVariants as class
use Rattle.managed_entity.specs.Answer.{padded}
use Rattle.mib_state.specs.Entities.{Entities, nothing}
use Rattle.mib_state.specs.Step.{create, create_in, delete, delete_in, left}
use Rattle.frame_meaning.specs.declared.reason.Reason.TheVariants.{NoGem, NullPointer}
use Rattle.frame_meaning.specs.Meaning.{carries_upstream, gem_port_behind, gem_port_of, mapper_at, port_id_of, table_at}
use Rattle.pmapper.specs.Mapper.{pointer_of}
use Rattle.explain_findings.specs.declared.finding.Finding.TheVariants.{MissingGemPort, MissingInterwork, MissingServiceProfile, NotUpstream, NullPointer as Null, PortDrops, SecondMapper, SharedPortId, UncarriedPriority, Unreached}
use Rattle.explain_findings.specs.Reach.{ports, priorities, reached_gem_ports, reached_mappers, reached_points, reached_tables}
use Rattle.explain_findings.specs.Drops.{port_drops}
use Rattle.explain_findings.specs.Findings.{class_findings, findings, instance_findings}
use Rattle.explain_findings.specs.declared.graph.NodeKind.TheVariants as kind
use Rattle.explain_findings.specs.Graph.{distinct, edges, graph_node, node, nodes, plain_edge, priorities_to, shown_of}

-- ---- the entities

abbrev request : Action → ℕ → ℕ → List ℕ → Request
request action class instance contents =
    record { tci = 1; action = action; wants_answer = true; class = class; instance = instance; contents = padded 32 contents }

abbrev and_then : Entities → Request → Entities
and_then e q = left q.action e q

-- GEM port network CTP n of port-ID 1024, with a direction
abbrev gem_port : ℕ → ℕ → Request
gem_port n direction = request Create 268 n (0x04 ∷ 0x00 ∷ 0x80 ∷ 0x01 ∷ direction ∷ [])

-- GEM interworking termination point 0x0501 to GEM port network CTP 0x0401
abbrev point : Request
point = request Create 266 0x0501 (0x04 ∷ 0x01 ∷ 0x05 ∷ 0x06 ∷ 0x01 ∷ [])

-- a mapper of port 256 + port, whose first pointer is two bytes, and the other seven are two others
abbrev mapper : ℕ → ℕ → ℕ → ℕ → ℕ → ℕ → Request
mapper n port first second high low =
    request Create 130 n
    (1 ∷ port ∷ first ∷ second ∷ high ∷ low ∷ high ∷ low ∷ high ∷ low ∷ high ∷ low ∷ high ∷ low ∷ high ∷ low ∷ high ∷ low ∷ 1 ∷ 0 ∷ 1 ∷ [])

-- port 257 leads to port-ID 1024, by each priority
abbrev led : Entities
led = and_then (and_then (and_then nothing (gem_port 0x0401 3)) point) (mapper 0x0601 1 0x05 0x01 0x05 0x01)

-- ---- what is found

none : findings led ≡ []
unfolding findings class_findings instance_findings port_drops ports reached_mappers reached_tables reached_points reached_gem_ports create create_in mapper_at table_at pointer_of gem_port_of gem_port_behind port_id_of carries_upstream
none = refl

-- a port whose mapper has null pointers alone
null : findings (and_then led (mapper 0x0602 2 0xff 0xff 0xff 0xff)) ≡ PortDrops 258 NullPointer ∷ map (Null 0x0602) priorities
unfolding findings class_findings instance_findings port_drops ports reached_mappers reached_tables reached_points reached_gem_ports create create_in mapper_at table_at pointer_of gem_port_of gem_port_behind port_id_of carries_upstream
null = refl

-- the GEM port is gone: no priority is carried, for the same reason
gone : findings (and_then led (request Delete 268 0x0401 []))
    ≡ (PortDrops 257 NoGem ∷ map (λ p. UncarriedPriority 0x0601 p NoGem) priorities) ++ MissingGemPort 0x0501 0x0401 ∷ []
unfolding findings class_findings instance_findings port_drops ports reached_mappers reached_tables reached_points reached_gem_ports create create_in delete delete_in mapper_at table_at pointer_of gem_port_of gem_port_behind port_id_of carries_upstream
gone = refl

-- a mapper of less number takes the port: its first pointer leads nowhere, and the others where those of the first mapper led. A
-- second GEM port of the same port-ID, downstream alone, is reached by nobody.
second : findings (and_then (and_then led (mapper 0x0600 1 0x05 0x99 0x05 0x01)) (gem_port 0x0402 2))
    ≡ MissingInterwork 0x0600 0 0x0599 ∷ SecondMapper 0x0601 257 0x0600 ∷ Unreached class.Mapper 0x0601
    ∷ NotUpstream 0x0402 2 ∷ SharedPortId 0x0402 1024 0x0401 ∷ Unreached class.GemPort 0x0402 ∷ []
unfolding findings class_findings instance_findings port_drops ports reached_mappers reached_tables reached_points reached_gem_ports create create_in mapper_at table_at pointer_of gem_port_of gem_port_behind port_id_of carries_upstream
second = refl

-- the mapper is gone, to which the point's service profile pointer leads
unserved : findings (and_then led (request Delete 130 0x0601 []))
    ≡ MissingServiceProfile 0x0501 0x0601 ∷ Unreached class.Interwork 0x0501 ∷ Unreached class.GemPort 0x0401 ∷ []
unfolding findings class_findings instance_findings port_drops ports reached_mappers reached_tables reached_points reached_gem_ports create create_in delete delete_in mapper_at table_at pointer_of gem_port_of gem_port_behind port_id_of carries_upstream
unserved = refl

-- of a point of another option, here MAC bridge service, nothing is said of its service profile pointer
bridged : findings (and_then (and_then led (request Delete 130 0x0601 [])) (request Create 266 0x0502 (0x04 ∷ 0x01 ∷ 0x01 ∷ 0x06 ∷ 0x01 ∷ [])))
    ≡ MissingServiceProfile 0x0501 0x0601 ∷ Unreached class.Interwork 0x0501 ∷ Unreached class.Interwork 0x0502 ∷ Unreached class.GemPort 0x0401 ∷ []
unfolding findings class_findings instance_findings port_drops ports reached_mappers reached_tables reached_points reached_gem_ports create create_in delete delete_in mapper_at table_at pointer_of gem_port_of gem_port_behind port_id_of carries_upstream
bridged = refl

-- ---- the graph

abbrev two_mappers : Entities
two_mappers = and_then led (mapper 0x0600 1 0x05 0x99 0x05 0x01)

-- an edge for each pointer, those that lead to one point joined, and one that leads nowhere; the second mapper isn't in force
drawn : (nodes two_mappers (shown_of two_mappers None)
    ≡ graph_node two_mappers kind.Port 257
    ∷ record { node = node kind.Mapper 0x0600; in_force = true } ∷ record { node = node kind.Mapper 0x0601; in_force = false }
    ∷ record { node = node kind.Interwork 0x0501; in_force = true } ∷ record { node = node kind.GemPort 0x0401; in_force = true } ∷ [])
    × (edges two_mappers (shown_of two_mappers None)
    ≡ plain_edge (node kind.Mapper 0x0600) (node kind.Port 257) false
    ∷ record { from = node kind.Mapper 0x0600; to = node kind.Interwork 0x0599; priorities = record { items = 0 ∷ [] }; is_missing = true }
    ∷ record { from = node kind.Mapper 0x0600; to = node kind.Interwork 0x0501; priorities = record { items = 1 ∷ 2 ∷ 3 ∷ 4 ∷ 5 ∷ 6 ∷ 7 ∷ [] }; is_missing = false }
    ∷ plain_edge (node kind.Mapper 0x0601) (node kind.Port 257) false
    ∷ record { from = node kind.Mapper 0x0601; to = node kind.Interwork 0x0501; priorities = record { items = priorities }; is_missing = false }
    ∷ plain_edge (node kind.Interwork 0x0501) (node kind.GemPort 0x0401) false ∷ [])
unfolding nodes edges distinct priorities_to ports reached_mappers create create_in pointer_of
drawn = (refl, refl)
