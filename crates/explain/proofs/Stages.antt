-- The steps of each stage, by what code finds there.
use Rattle.std.proofs.Common.{◌≡◌, ℕ, ◌^◌, ◌<◌, List, [], ◌∷◌, Option, Some, None, Ok, Err, ◌++◌, refl, ap, ◌∙◌}
use Rattle.tag_view.specs.Tag.{TagFields}
use Rattle.tag_view.specs.declared.fault.FrameFault.{FrameFault}
use Rattle.tag_view.specs.Frame.{Reading, frame_of}
use Rattle.tag_view.specs.Dscp.{dscp_of}
use Rattle.vlan_rule.specs.declared.rule.Rule.{Rule}
use Rattle.vlan_rule.specs.declared.settings.TableSettings.{TableSettings}
use Rattle.vlan_rule.specs.declared.treatment.Treatment.{Treatment}
use Rattle.vlan_rule.specs.Rule.{IsRuleOf}
use Rattle.pmapper.specs.declared.mapper.Mapper.{Mapper}
use Rattle.pmapper.specs.declared.interwork.Interwork.{Interwork}
use Rattle.pmapper.specs.declared.gem_port.GemPort.{GemPort}
use Rattle.pmapper.specs.Mapper.{pointer_of, priority_of, unmarked_of}
use Rattle.managed_entity.specs.Instance.{Instance}
use Rattle.managed_entity.specs.Shown.{gem_port_instance, interwork_instance, mapper_instance}
use Rattle.mib_state.specs.Entities.{Entities, find}
use Rattle.frame_meaning.specs.declared.reason.Reason.{Reason}
use Rattle.frame_meaning.specs.declared.reason.Reason.TheVariants.{NoRule, RuleDiscard, NoMapper, NullPointer, NoInterwork, NoGem}
use Rattle.frame_meaning.specs.declared.verdict.Verdict.TheVariants.{Forward}
use Rattle.frame_meaning.specs.Meaning.{Table, entry_for, input_tpid_of, mapper_at, pointers_at, port_id_of, table_at}
use Rattle.frame_meaning.specs.Reason.{reason_of_fault}
use Rattle.frame_meaning.proofs.Numbers.{gem_port_pointer_number, one_byte, port_id_number, unmarked_is}
use Rattle.explain.specs.declared.force.TableInForce.{TableInForce}
use Rattle.explain.specs.declared.outgoing.OutgoingTag.{OutgoingTag}
use Rattle.explain.specs.declared.priority.PriorityOrigin.{PriorityOrigin}
use Rattle.explain.specs.declared.step.Step.TheVariants as step
use Rattle.explain.specs.Priority.{priority_origin}
use Rattle.explain.specs.Force.{table_in_force}
use Rattle.explain.specs.Outgoing.{kept_after, outgoing, outgoing_by, plain}
use Rattle.explain.specs.Steps.{dropped, explained, from_gem_port, from_interwork, from_mapper, from_pointer, from_read, from_table, from_tags, tries_of}

-- ---- the GEM port network CTP

pub gem_port_carries : (leaving : Reading) (n : ℕ) (gem : GemPort) (id : ℕ) → gem.port_id < 2 ^ 16 → Ok id ≡ port_id_of (gem_port_instance n gem)
    → step.GemPort n gem.port_id gem.direction ∷ step.Verdict (Forward id leaving) ∷ [] ≡ from_gem_port leaving (gem_port_instance n gem)
unfolding from_gem_port
gem_port_carries leaving n gem id fits is = rw (← is, port_id_number n gem fits, one_byte gem.direction) refl

pub gem_port_drops : (leaving : Reading) (n : ℕ) (gem : GemPort) (reason : Reason) → gem.port_id < 2 ^ 16 → Err reason ≡ port_id_of (gem_port_instance n gem)
    → step.GemPort n gem.port_id gem.direction ∷ dropped reason ≡ from_gem_port leaving (gem_port_instance n gem)
unfolding from_gem_port
gem_port_drops leaving n gem reason fits is = rw (← is, port_id_number n gem fits, one_byte gem.direction) refl

-- ---- the GEM interworking termination point

pub interwork_leads : (e : Entities) (leaving : Reading) (n : ℕ) (t : Interwork) (gem : Instance) → t.gem_port_pointer < 2 ^ 16
    → Some gem ≡ find t.gem_port_pointer e.gem_ports
    → step.Interwork n t.gem_port_pointer ∷ from_gem_port leaving gem ≡ from_interwork e leaving (interwork_instance n t)
unfolding from_interwork
interwork_leads e leaving n t gem fits is = rw (gem_port_pointer_number n t fits, ← is) refl

pub interwork_drops : (e : Entities) (leaving : Reading) (n : ℕ) (t : Interwork) → t.gem_port_pointer < 2 ^ 16
    → None ≡ find t.gem_port_pointer e.gem_ports
    → step.Interwork n t.gem_port_pointer ∷ dropped NoGem ≡ from_interwork e leaving (interwork_instance n t)
unfolding from_interwork
interwork_drops e leaving n t fits is = rw (gem_port_pointer_number n t fits, ← is) refl

-- ---- the pointer

pub pointer_leads : (e : Entities) (leaving : Reading) (pointer : ℕ) (point : Instance) → Some point ≡ find pointer e.interworks
    → step.Pointer pointer ∷ from_interwork e leaving point ≡ from_pointer e leaving pointer
unfolding from_pointer
pointer_leads e leaving pointer point is = rw (← is) refl

pub pointer_drops : (e : Entities) (leaving : Reading) (pointer : ℕ) → None ≡ find pointer e.interworks
    → step.Pointer pointer ∷ dropped NoInterwork ≡ from_pointer e leaving pointer
unfolding from_pointer
pointer_drops e leaving pointer is = rw (← is) refl

-- ---- the mapper

pub mapper_leads : (e : Entities) (leaving : Reading) (dscp : Option ℕ) (n : ℕ) (m : Mapper) (priority : ℕ) (origin : PriorityOrigin) (pointer : ℕ)
    → priority ≡ priority_of (unmarked_of m) leaving.tags dscp → origin ≡ priority_origin (unmarked_of m) leaving.tags dscp
    → Some pointer ≡ pointer_of (pointers_at (mapper_instance n m)) priority
    → step.Mapper n ∷ step.Priority priority origin ∷ from_pointer e leaving pointer ≡ from_mapper e leaving dscp (mapper_instance n m)
unfolding from_mapper
mapper_leads e leaving dscp n m priority origin pointer is_priority is_origin is =
    let unmarked = unmarked_is n m in rw (unmarked, ← is_priority, ← is_origin, ← is) refl

pub mapper_drops : (e : Entities) (leaving : Reading) (dscp : Option ℕ) (n : ℕ) (m : Mapper) (priority : ℕ) (origin : PriorityOrigin)
    → priority ≡ priority_of (unmarked_of m) leaving.tags dscp → origin ≡ priority_origin (unmarked_of m) leaving.tags dscp
    → None ≡ pointer_of (pointers_at (mapper_instance n m)) priority
    → step.Mapper n ∷ step.Priority priority origin ∷ dropped NullPointer ≡ from_mapper e leaving dscp (mapper_instance n m)
unfolding from_mapper
mapper_drops e leaving dscp n m priority origin is_priority is_origin is =
    let unmarked = unmarked_is n m in rw (unmarked, ← is_priority, ← is_origin, ← is) refl

-- ---- the tags

pub tags_lead : (e : Entities) (port : ℕ) (frame leaving : Reading) (tags : List OutgoingTag) (dscp : Option ℕ) (mapper : Instance)
    → leaving ≡ record frame { tags = plain tags } → dscp ≡ dscp_of frame.rest → Some mapper ≡ mapper_at e port
    → step.Tags (record { items = tags }) ∷ from_mapper e leaving dscp mapper ≡ from_tags e port frame tags
unfolding from_tags
tags_lead e port frame leaving tags dscp mapper is is_dscp there = rw (is, is_dscp, ← there) refl

pub tags_drop : (e : Entities) (port : ℕ) (frame : Reading) (tags : List OutgoingTag) → None ≡ mapper_at e port
    → step.Tags (record { items = tags }) ∷ dropped NoMapper ≡ from_tags e port frame tags
unfolding from_tags
tags_drop e port frame tags none = rw (← none) refl

-- ---- the table

-- no entry is used
pub table_drops : (e : Entities) (port : ℕ) (table : Table) (frame : Reading) → entry_for table frame ≡ None
    → tries_of table frame ++ dropped NoRule ≡ from_table e port table frame
unfolding from_table
table_drops e port table frame none = rw none refl

-- the entry that is used discards the frame
pub table_discards : (e : Entities) (port : ℕ) (table : Table) (frame : Reading) (entry : List ℕ) → entry_for table frame ≡ Some entry
    → None ≡ outgoing entry table.settings frame.tags (dscp_of frame.rest)
    → tries_of table frame ++ dropped RuleDiscard ≡ from_table e port table frame
unfolding from_table
table_discards e port table frame entry used is = rw (used, ← is) refl

pub table_leads : (e : Entities) (port : ℕ) (table : Table) (frame : Reading) (entry : List ℕ) (tags : List OutgoingTag) → entry_for table frame ≡ Some entry
    → Some tags ≡ outgoing entry table.settings frame.tags (dscp_of frame.rest)
    → tries_of table frame ++ from_tags e port frame tags ≡ from_table e port table frame
unfolding from_table
table_leads e port table frame entry tags used is = rw (used, ← is) refl

-- the tags by an entry are those by its rule
pub rule_outgoing : (entry : List ℕ) (rule : Rule) (settings : TableSettings) (tags : List TagFields) (dscp : Option ℕ) (found : Option (List OutgoingTag))
    → IsRuleOf entry rule → found ≡ outgoing_by rule.treatment settings tags dscp → found ≡ outgoing entry settings tags dscp
unfolding outgoing
rule_outgoing entry rule settings tags dscp found means is = is ∙ ap (λ (t : Treatment). outgoing_by t settings tags dscp) means.treatment

-- ---- the reading

pub read_by_table : (e : Entities) (port : ℕ) (found : Option Table) (table : Table) (frame : Reading) → found ≡ Some table
    → step.Read frame ∷ from_table e port table frame ≡ from_read e port found frame
unfolding from_read
read_by_table e port found table frame is = rw is refl

pub read_plainly : (e : Entities) (port : ℕ) (found : Option Table) (frame : Reading) (tags : List OutgoingTag) → found ≡ None → tags ≡ kept_after 0 frame.tags
    → step.Read frame ∷ from_tags e port frame tags ≡ from_read e port found frame
unfolding from_read
read_plainly e port found frame tags none is = rw (none, is) refl

-- ---- the whole

pub explained_read : (e : Entities) (port : ℕ) (bytes : List ℕ) (table : Option Table) (force : TableInForce) (input : ℕ) (frame : Reading)
    → table ≡ table_at e port → force ≡ table_in_force e port → input ≡ input_tpid_of table → Ok frame ≡ frame_of input bytes
    → step.Table force ∷ from_read e port table frame ≡ explained e port bytes
unfolding explained
explained_read e port bytes table force input frame is_table is_force is_input is = rw (← is_table, is_force, ← is_input, ← is) refl

pub explained_drop : (e : Entities) (port : ℕ) (bytes : List ℕ) (table : Option Table) (force : TableInForce) (input : ℕ) (fault : FrameFault) (reason : Reason)
    → table ≡ table_at e port → force ≡ table_in_force e port → input ≡ input_tpid_of table → Err fault ≡ frame_of input bytes → reason ≡ reason_of_fault fault
    → step.Table force ∷ dropped reason ≡ explained e port bytes
unfolding explained
explained_drop e port bytes table force input fault reason is_table is_force is_input is is_reason = rw (← is_table, is_force, ← is_input, ← is, is_reason) refl
