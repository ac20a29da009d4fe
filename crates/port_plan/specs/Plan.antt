-- What is compiled of a table and of a mapper for forwarding: each is a function of the managed entities.
use Rattle.std.specs.Prelude.{◌≡◌, ◌<◌, ℕ, Bool, false, Option, Some, None, IfSome, Result, Err, slice_get, slice_index, replicate}
use Rattle.tag_view.specs.Tag.{customer_tpid}
use Rattle.vlan_rule.specs.Table.{predefined}
use Rattle.pmapper.specs.Mapper.{unmarked_priority_of}
use Rattle.managed_entity.specs.Instance.{Instance, attribute_number}
use Rattle.mib_state.specs.Entities.{Entities, find}
use Rattle.mib_state.specs.Touch.{AreSameButOne}
use Rattle.frame_meaning.specs.declared.reason.Reason.{Reason}
use Rattle.frame_meaning.specs.declared.reason.Reason.TheVariants.{NoMapper}
use Rattle.port_plan.specs.declared.mapper_routes.Route.{Route}
use Rattle.port_plan.specs.declared.routes.Routes.{Routes}
use Rattle.frame_meaning.specs.Meaning.{Table, unmarked_at, pointers_at, gem_port_of}

-- ---- the DSCP of a frame as a place in a list: its number, and 64 for none

abbrev pub dscp_place : Option ℕ → ℕ
dscp_place (Some dscp) = dscp
dscp_place None = 64

-- a DSCP has six bits
abbrev pub IsDscp : Option ℕ → Type 0
IsDscp dscp = IfSome dscp (λ d. d < 64)

-- ---- a table

-- what is compiled of a table: the table that it is, and whether it asks for the DSCP of a frame
pub record TablePlan : Type 0 where
  pub table : Table
  pub uses_dscp : Bool

-- a table by which every frame keeps its tags: a new one. A port without a table is as one with this.
abbrev pub transparent : Table
transparent =
    record {
      settings = record { input_tpid = customer_tpid; output_tpid = customer_tpid; dscp_map = record { 0 = replicate 24 0 } };
      entries = predefined;
    }

-- ---- a mapper

-- the GEM port of the frames of a priority that come to a mapper, or the reason that there is none
abbrev pub route_of : Entities → Option Instance → ℕ → Result ℕ Reason
route_of e None priority = Err NoMapper
route_of e (Some mapper) priority = gem_port_of e mapper priority

-- the GEM interworking termination point that a mapper points to for a priority, 65535 for null
abbrev pub point_number : Option Instance → ℕ → ℕ
point_number None priority = 65535
point_number (Some mapper) priority = slice_index (pointers_at mapper) priority

-- the GEM port network CTP that a GEM interworking termination point points to, attribute 1, and 65535 without the point
abbrev pub ctp_behind : Option Instance → ℕ
ctp_behind None = 65535
ctp_behind (Some point) = attribute_number 1 point

-- that of the point that a mapper points to for a priority
abbrev pub ctp_number : Entities → Option Instance → ℕ → ℕ
ctp_number e None priority = 65535
ctp_number e (Some mapper) priority = ctp_behind (find (point_number (Some mapper) priority) e.interworks)

-- where the frames of a priority leave, and what that was read from
abbrev pub compiled_route : Entities → Option Instance → ℕ → Route
compiled_route e mapper priority =
    record { to = route_of e mapper priority; interwork = point_number mapper priority; gem_port = ctp_number e mapper priority }

-- the priority that a mapper has for frames without a tag, by their DSCP if they have one
abbrev pub untagged_priority : Option Instance → Option ℕ → ℕ
untagged_priority None dscp = 0
untagged_priority (Some mapper) dscp = unmarked_priority_of (unmarked_at mapper) dscp

-- the routes of a mapper, or those of a port without one
pub record AreRoutes (e : Entities) (mapper : Option Instance) (routes : Routes) : Type 0 where
  pub by_priority : (priority : ℕ) → priority < 8 → slice_get routes.by_priority priority ≡ Some (compiled_route e mapper priority)
  pub untagged : (dscp : Option ℕ) → IsDscp dscp → slice_index routes.untagged (dscp_place dscp) ≡ untagged_priority mapper dscp
  -- where the DSCP isn't asked for, it makes no difference
  pub foreseen : routes.uses_dscp ≡ false → (dscp : Option ℕ) → untagged_priority mapper dscp ≡ untagged_priority mapper None

-- the routes of a mapper stay what they are where of the entities none but instance n of a class changes
abbrev pub DoesNotRead : ℕ → ℕ → Routes → Type 0
DoesNotRead class n routes =
    (e e' : Entities) (mapper : Instance) → AreSameButOne class n e e' → AreRoutes e (Some mapper) routes → AreRoutes e' (Some mapper) routes
