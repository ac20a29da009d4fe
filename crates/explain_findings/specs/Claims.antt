-- What a finding claims, over the managed entities and over the meaning of every frame (ITU-T G.988, clause 9).
use Rattle.std.specs.Prelude.{◌≡◌, ◌≢◌, ℕ, ◌<◌, ◌^◌, Bool, true, false, ◌||◌, List, All, Option, Some, None, Ok, ◌==◌, is_none, min, nat_lt}
use Rattle.std.specs.List.{list_all}
use Rattle.omci_msg.specs.declared.Request.{Request}
use Rattle.tag_view.specs.Tag.{TagFields}
use Rattle.tag_view.specs.Frame.{Reading}
use Rattle.tag_view.specs.Dscp.{dscp_of}
use Rattle.vlan_rule.specs.Entry.{refusal_of}
use Rattle.pmapper.specs.Mapper.{pointer_of, priority_of}
use Rattle.managed_entity.specs.declared.class.Class.{Class}
use Rattle.managed_entity.specs.declared.class.Class.TheVariants as class
use Rattle.managed_entity.specs.Instance.{Instance, attribute_number}
use Rattle.mib_state.specs.Entities.{Entities, find}
use Rattle.mib_state.specs.Attached.{association_mapper, mapper_of_port, table_of_port}
use Rattle.mib_state.specs.After.{after}
use Rattle.frame_meaning.specs.declared.reason.Reason.{Reason}
use Rattle.frame_meaning.specs.declared.reason.Reason.TheVariants as reason
use Rattle.frame_meaning.specs.declared.verdict.Verdict.{Verdict}
use Rattle.frame_meaning.specs.declared.verdict.Verdict.TheVariants.{Forward, Drop}
use Rattle.frame_meaning.specs.Reason.{number_of_reason}
use Rattle.frame_meaning.specs.Meaning.{carries_upstream, meaning, pointers_at, read_at, table_at, tags_at, unmarked_at}
use Rattle.explain.specs.declared.force.TableInForce.{TableInForce}
use Rattle.explain.specs.declared.force.TableInForce.TheVariants.{NoTable, OfPort, OfMapper}
use Rattle.explain.specs.declared.step.Step.{Step}
use Rattle.explain.specs.declared.step.Step.TheVariants as step
use Rattle.explain.specs.Covers.{shadow_of}
use Rattle.explain.specs.Force.{number_in_force, table_in_force}
use Rattle.explain.specs.Steps.{explained, told_used}
use Rattle.explain_findings.specs.declared.finding.Finding.{Finding}
use Rattle.explain_findings.specs.declared.finding.Finding.TheVariants as finding
use Rattle.explain_findings.specs.Reach.{port_of_mapper}
use Rattle.explain_findings.specs.Findings.{findings, has_port_id, option_mapper, port_by_table}

-- ---- what is said of entities and frames in general

-- each entry of each table is one that a table takes; so it is after every list of requests
abbrev pub holds_rules : Entities → Bool
holds_rules e = list_all (λ table. list_all (λ entry. is_none (refusal_of entry)) table.entries) e.vlans

abbrev pub AreBytes : List ℕ → Type 0
AreBytes bytes = All (λ b. b < 2 ^ 8) bytes

-- ---- of a port

-- a frame is dropped, for a reason that passes a test
abbrev pub drops : (Reason → Bool) → Verdict → Bool
drops test (Forward gem frame) = false
drops test (Drop r) = test r

-- a reason is this one, or one that is found before: as a frame is read, or by the port's table
abbrev pub is_by : Reason → Reason → Bool
is_by r other =
    number_of_reason other == number_of_reason r || nat_lt (number_of_reason other) (min (number_of_reason r) (number_of_reason reason.NoMapper))

-- all frames of a port are dropped, for a reason or before
abbrev pub DropsBy : Entities → ℕ → Reason → Type 0
DropsBy e port r = (bytes : List ℕ) → AreBytes bytes → drops (is_by r) (meaning e port bytes) ≡ true

-- all frames of a port are dropped
abbrev pub DropsAll : Entities → ℕ → Type 0
DropsAll e port = (bytes : List ℕ) → AreBytes bytes → drops (λ r. true) (meaning e port bytes) ≡ true

-- ---- of a mapper's priority

-- a frame that comes in at a port comes to the port's mapper, and has a priority there
pub record ComesTo (e : Entities) (port : ℕ) (bytes : List ℕ) (mapper priority : ℕ) : Type 0 where
  pub frame : Reading
  pub tags : List TagFields
  pub instance : Instance
  pub read : read_at (table_at e port) bytes ≡ Ok frame
  pub leaves : tags_at (table_at e port) frame ≡ Ok tags
  pub in_force : mapper_of_port e port ≡ Some mapper
  pub found : find mapper e.mappers ≡ Some instance
  pub with : priority_of (unmarked_at instance) tags (dscp_of frame.rest) ≡ priority

-- every such frame, of whatever port, is dropped for a reason
abbrev pub DropsPriority : Entities → ℕ → ℕ → Reason → Type 0
DropsPriority e mapper priority r = (port : ℕ) (bytes : List ℕ) → ComesTo e port bytes mapper priority → meaning e port bytes ≡ Drop r

-- the pointer of a priority
pub record PointsBy (e : Entities) (mapper priority : ℕ) (pointer : Option ℕ) : Type 0 where
  pub instance : Instance
  pub found : find mapper e.mappers ≡ Some instance
  pub points : pointer_of (pointers_at instance) priority ≡ pointer

-- ---- of an instance

abbrev pub is_table : TableInForce → ℕ → Bool
is_table NoTable n = false
is_table (OfPort instance) n = instance == n
is_table (OfMapper mapper instance) n = instance == n

-- the table in force hangs on the mapper
abbrev pub hangs_on : TableInForce → ℕ → Bool
hangs_on NoTable n = false
hangs_on (OfPort instance) n = false
hangs_on (OfMapper mapper instance) n = mapper == n

-- a step of an explanation comes by the instance of a class, or points to it
abbrev pub names : Class → ℕ → Step → Bool
names class.Vlan n (step.Table force) = is_table force n
names class.Mapper n (step.Table force) = hangs_on force n
names class.Mapper n (step.Mapper instance) = instance == n
names class.Interwork n (step.Pointer pointer) = pointer == n
names class.Interwork n (step.Interwork instance pointer) = instance == n
names class.GemPort n (step.Interwork instance pointer) = pointer == n
names class.GemPort n (step.GemPort instance id direction) = instance == n
names c n _ = false

-- no step of any frame of any port does
abbrev pub IsUnreached : Entities → Class → ℕ → Type 0
IsUnreached e c n = (port : ℕ) (bytes : List ℕ) → AreBytes bytes → All (λ s. names c n s ≡ false) (explained e port bytes)

-- ---- of a table's entry

-- the entry at a place of a table is covered by another one that is tried before it; wherever the table is in force, it is used
-- for no frame
pub record IsUnused (e : Entities) (table place other : ℕ) : Type 0 where
  pub instance : Instance
  pub found : find table e.vlans ≡ Some instance
  pub covered : shadow_of instance.entries place ≡ Some other
  pub never : (port : ℕ) (bytes : List ℕ) → number_in_force (table_in_force e port) ≡ Some table → told_used (explained e port bytes) ≢ Some place

-- ---- of entities

-- another mapper is in force at the port that the mapper points to
pub record IsSecondMapper (e : Entities) (mapper port other : ℕ) : Type 0 where
  pub instance : Instance
  pub found : find mapper e.mappers ≡ Some instance
  pub points : port_of_mapper instance ≡ Some port
  pub in_force : mapper_of_port e port ≡ Some other
  pub differs : other ≢ mapper

-- another table is in force at the port that the table points to, or to whose mapper
pub record IsSecondTable (e : Entities) (table port other : ℕ) : Type 0 where
  pub instance : Instance
  pub found : find table e.vlans ≡ Some instance
  pub points : port_by_table e instance ≡ Some port
  pub in_force : table_of_port e port ≡ Some other
  pub differs : other ≢ table

-- the association type of the table is a mapper, and there is none of its pointer
pub record LacksMapper (e : Entities) (table pointer : ℕ) : Type 0 where
  pub instance : Instance
  pub found : find table e.vlans ≡ Some instance
  pub association : attribute_number 1 instance ≡ association_mapper
  pub points : attribute_number 7 instance ≡ pointer
  pub missing : find pointer e.mappers ≡ None

-- there is no GEM port network CTP of the pointer
pub record LacksGemPort (e : Entities) (point pointer : ℕ) : Type 0 where
  pub instance : Instance
  pub found : find point e.interworks ≡ Some instance
  pub points : attribute_number 1 instance ≡ pointer
  pub missing : find pointer e.gem_ports ≡ None

-- the interworking option of the point is an 802.1p mapper, and there is none of its service profile pointer
pub record LacksServiceProfile (e : Entities) (point pointer : ℕ) : Type 0 where
  pub instance : Instance
  pub found : find point e.interworks ≡ Some instance
  pub option : attribute_number 2 instance ≡ option_mapper
  pub points : attribute_number 3 instance ≡ pointer
  pub missing : find pointer e.mappers ≡ None

-- the GEM port network CTP has this direction, and carries no frames upstream
pub record IsNotUpstream (e : Entities) (gem direction : ℕ) : Type 0 where
  pub instance : Instance
  pub found : find gem e.gem_ports ≡ Some instance
  pub directed : attribute_number 3 instance ≡ direction
  pub carries : carries_upstream instance ≡ false

-- two GEM port network CTPs have one port-ID
pub record SharesPortId (e : Entities) (gem id first : ℕ) : Type 0 where
  pub own : has_port_id e id gem ≡ true
  pub other : has_port_id e id first ≡ true
  pub differs : first ≢ gem

-- ---- all

abbrev pub Claims : Entities → Finding → Type 0
Claims e (finding.SecondMapper mapper port other) = IsSecondMapper e mapper port other
Claims e (finding.SecondTable table port other) = IsSecondTable e table port other
Claims e (finding.PortDrops port r) = DropsBy e port r
Claims e (finding.PortCarriesNone port) = DropsAll e port
Claims e (finding.NullPointer mapper priority) = PointsBy e mapper priority None × DropsPriority e mapper priority reason.NullPointer
Claims e (finding.MissingInterwork mapper priority pointer) =
    PointsBy e mapper priority (Some pointer) × (find pointer e.interworks ≡ None) × DropsPriority e mapper priority reason.NoInterwork
Claims e (finding.UncarriedPriority mapper priority r) = DropsPriority e mapper priority r
Claims e (finding.MissingMapper table pointer) = LacksMapper e table pointer
Claims e (finding.UnusedEntry table place other) = IsUnused e table place other
Claims e (finding.MissingGemPort point pointer) = LacksGemPort e point pointer
Claims e (finding.MissingServiceProfile point pointer) = LacksServiceProfile e point pointer
Claims e (finding.NotUpstream gem direction) = IsNotUpstream e gem direction
Claims e (finding.SharedPortId gem id first) = SharesPortId e gem id first
Claims e (finding.Unreached c n) = IsUnreached e c n

-- ---- law

-- every finding about entities whose tables hold rules holds what it claims, and so it is after every list of requests
pub record FindingsHold : Type 0 where
  pub holds : (e : Entities) → holds_rules e ≡ true → All (Claims e) (findings e)
  pub rules : (requests : List Request) → holds_rules (after requests) ≡ true
