-- What is compiled of all entities.
use Rattle.std.specs.Prelude.{◌≡◌, ◌<◌, ℕ, List, Option, Some, slice_get, slice_index}
use Rattle.managed_entity.specs.Instance.{Instance}
use Rattle.mib_state.specs.Entities.{Entities}
use Rattle.port_plan.specs.declared.routes.Routes.{Routes}
use Rattle.port_plan.specs.Plan.{IsDscp, TablePlan, dscp_place}
use Rattle.forward_plan.specs.declared.part.Part.{Part}
use Rattle.forward_plan.specs.declared.plan.Plan.{Plan}
use Rattle.forward_plan.specs.Attachment.{ArePorts}
use Rattle.forward_plan.specs.Parts.{AreParts, AreRight, IsMapper, IsTable}
use Rattle.forward_plan.specs.Ports.{port_count}

-- all parts are those of the entities
pub record IsCompiled (e : Entities) (plan : Plan) : Type 0 where
  pub of_ports : ArePorts e plan.ports
  pub of_tables : AreParts IsTable e.vlans plan.tables.items
  pub of_mappers : AreParts (IsMapper e) e.mappers plan.mappers.items

-- the plan lags behind the entities: what is kept of an instance is right, but not every instance has a part, and what is attached to the
-- ports is that of some entities before
pub record IsBehind (e : Entities) (plan : Plan) : Type 0 where
  pub before : Entities
  pub of_ports : ArePorts before plan.ports
  pub of_tables : AreRight IsTable e.vlans plan.tables.items
  pub of_mappers : AreRight (IsMapper e) e.mappers plan.mappers.items

-- ---- two plans of the same entities

-- the same table was compiled
abbrev pub IsSameTable : TablePlan → TablePlan → Type 0
IsSameTable one other = one.table ≡ other.table

-- the same routes were compiled: one for each priority, and a priority of frames without a tag for each DSCP and for none
pub record AreSameRoutes (one other : Routes) : Type 0 where
  pub by_priority : (priority : ℕ) → priority < 8 → slice_get one.by_priority priority ≡ slice_get other.by_priority priority
  pub untagged : (dscp : Option ℕ) → IsDscp dscp → slice_index one.untagged (dscp_place dscp) ≡ slice_index other.untagged (dscp_place dscp)

-- two lists have a part at a place, and what was compiled there is the same
pub record AreSameAt {T : Type 0} (Same : T → T → Type 0) (one other : List (Part T)) (place : ℕ) : Type 0 where
  pub left : Part T
  pub right : Part T
  pub in_one : slice_get one place ≡ Some left
  pub in_other : slice_get other place ≡ Some right
  pub same : Same left.compiled right.compiled

-- the same is compiled of each table and of each mapper of the entities, and attached to each port
pub record AreSamePlans (e : Entities) (one other : Plan) : Type 0 where
  pub tables : (place : ℕ) (vlan : Instance) → slice_get e.vlans place ≡ Some vlan → AreSameAt IsSameTable one.tables.items other.tables.items place
  pub mappers : (place : ℕ) (mapper : Instance) → slice_get e.mappers place ≡ Some mapper → AreSameAt AreSameRoutes one.mappers.items other.mappers.items place
  pub ports : (port : ℕ) → port < port_count → slice_get one.ports.attached.items port ≡ slice_get other.ports.attached.items port

-- what is compiled of entities is one plan alone
abbrev pub CompiledIsOne : Type 0
CompiledIsOne = (e : Entities) (one other : Plan) → IsCompiled e one → IsCompiled e other → AreSamePlans e one other
