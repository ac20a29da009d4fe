-- The steps of an explanation: what the managed entities mean for a frame that comes in at a port, part by part (ITU-T G.988,
-- clauses 9.3.13, 9.3.10, 9.2.4 and 9.2.3). Each step is what the meaning finds there, and a drop is the last step.
use Rattle.std.specs.Prelude.{◌≡◌, ℕ, List, [], ◌∷◌, ◌++◌, Option, Some, None, Result, Ok, Err, ok_or}
use Rattle.tag_view.specs.Frame.{Reading, type_at}
use Rattle.tag_view.specs.Dscp.{dscp_of}
use Rattle.vlan_rule.specs.Choice.{choice, entry_at, matches}
use Rattle.pmapper.specs.Mapper.{pointer_of, priority_of}
use Rattle.managed_entity.specs.Instance.{Instance, attribute_number}
use Rattle.mib_state.specs.Entities.{Entities, find}
use Rattle.frame_meaning.specs.declared.reason.Reason.{Reason}
use Rattle.frame_meaning.specs.declared.reason.Reason.TheVariants.{NoRule, RuleDiscard, NoMapper, NullPointer, NoInterwork, NoGem}
use Rattle.frame_meaning.specs.declared.verdict.Verdict.TheVariants.{Forward, Drop}
use Rattle.frame_meaning.specs.Meaning.{Table, entry_for, mapper_at, pointers_at, port_id_of, read_at, table_at, unmarked_at}
use Rattle.explain.specs.declared.outgoing.OutgoingTag.{OutgoingTag}
use Rattle.explain.specs.declared.mismatch.Mismatch.{Mismatch}
use Rattle.explain.specs.declared.step.Step.{Step}
use Rattle.explain.specs.declared.step.Step.TheVariants as step
use Rattle.explain.specs.Force.{table_in_force}
use Rattle.explain.specs.Order.{tried_order}
use Rattle.explain.specs.Mismatch.{mismatch}
use Rattle.explain.specs.Outgoing.{kept_after, outgoing, plain}
use Rattle.explain.specs.Priority.{priority_origin}

-- the frame is dropped
abbrev pub dropped : Reason → List Step
dropped reason = step.Verdict (Drop reason) ∷ []

-- the steps from what was found on, or the drop
abbrev pub then_step : {A : Type 0} → Result A Reason → (A → List Step) → List Step
then_step (Ok found) next = next found
then_step (Err reason) next = dropped reason

-- ---- from the last step to the first

-- from the GEM port network CTP that a frame comes to
unfoldable pub from_gem_port : Reading → Instance → List Step
from_gem_port leaving gem =
    step.GemPort gem.number (attribute_number 1 gem) (attribute_number 3 gem)
    ∷ then_step (port_id_of gem) (λ id. step.Verdict (Forward id leaving) ∷ [])

-- from the GEM interworking termination point
unfoldable pub from_interwork : Entities → Reading → Instance → List Step
from_interwork e leaving point =
    step.Interwork point.number (attribute_number 1 point)
    ∷ then_step (ok_or (find (attribute_number 1 point) e.gem_ports) NoGem) (from_gem_port leaving)

-- from the pointer of the frame's priority
unfoldable pub from_pointer : Entities → Reading → ℕ → List Step
from_pointer e leaving pointer =
    step.Pointer pointer ∷ then_step (ok_or (find pointer e.interworks) NoInterwork) (from_interwork e leaving)

-- from the mapper; the frame has a DSCP, or has none
unfoldable pub from_mapper : Entities → Reading → Option ℕ → Instance → List Step
from_mapper e leaving dscp mapper =
    let priority = priority_of (unmarked_at mapper) leaving.tags dscp in
    step.Mapper mapper.number ∷ step.Priority priority (priority_origin (unmarked_at mapper) leaving.tags dscp)
    ∷ then_step (ok_or (pointer_of (pointers_at mapper) priority) NullPointer) (from_pointer e leaving)

-- from the tags that the frame leaves with
unfoldable pub from_tags : Entities → ℕ → Reading → List OutgoingTag → List Step
from_tags e port frame tags =
    step.Tags (record { items = tags })
    ∷ then_step (ok_or (mapper_at e port) NoMapper) (from_mapper e (record frame { tags = plain tags }) (dscp_of frame.rest))

-- the field by which the entry at a place doesn't admit a frame
abbrev pub mismatch_at : Table → Reading → ℕ → Option Mismatch
mismatch_at table frame place =
    mismatch table.settings.input_tpid frame.tags (type_at 0 frame.rest) (entry_at table.entries place)

-- an entry that is tried, and then the others where it fails
abbrev pub tried : ℕ → Option Mismatch → List Step → List Step
tried place None others = step.Used place ∷ []
tried place (Some field) others = step.Failed place field ∷ others

-- the entries that fail, and then the one that is used, if there is one
abbrev pub tries : (ℕ → Option Mismatch) → List ℕ → List Step
tries at [] = []
tries at (place ∷ rest) = tried place (at place) (tries at rest)

unfoldable pub tries_of : Table → Reading → List Step
tries_of table frame = tries (mismatch_at table frame) (tried_order table.entries)

-- from the table in force
unfoldable pub from_table : Entities → ℕ → Table → Reading → List Step
from_table e port table frame =
    tries_of table frame
    ++ then_step (ok_or (entry_for table frame) NoRule) (λ entry.
    then_step (ok_or (outgoing entry table.settings frame.tags (dscp_of frame.rest)) RuleDiscard) (from_tags e port frame))

-- from the reading of the frame
unfoldable pub from_read : Entities → ℕ → Option Table → Reading → List Step
from_read e port None frame = step.Read frame ∷ from_tags e port frame (kept_after 0 frame.tags)
from_read e port (Some table) frame = step.Read frame ∷ from_table e port table frame

-- why a frame that comes in at a port goes where it goes
unfoldable pub explained : Entities → ℕ → List ℕ → List Step
explained e port bytes =
    step.Table (table_in_force e port) ∷ then_step (read_at (table_at e port) bytes) (from_read e port (table_at e port))

-- ---- law

-- the entry that is told to be used
abbrev pub told_used : List Step → Option ℕ
told_used [] = None
told_used (step.Used place ∷ rest) = Some place
told_used (_ ∷ rest) = told_used rest

-- the entry that is told to be used is that which is, and none is told where none is
pub record TellsTheUsed : Type 0 where
  pub used : (table : Table) (frame : Reading)
      → told_used (tries_of table frame) ≡ choice (matches table.settings.input_tpid frame.tags (type_at 0 frame.rest)) table.entries
