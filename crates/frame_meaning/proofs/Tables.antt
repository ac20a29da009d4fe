-- What the table of a port does with a frame.
use Rattle.std.proofs.Common.{◌≡◌, ℕ, ◌^◌, ◌<◌, List, Some, None, Ok, Err, refl, sym}
use Rattle.tag_view.specs.Tag.{TagFields}
use Rattle.tag_view.specs.Dscp.{dscp_of}
use Rattle.tag_view.specs.Frame.{Reading}
use Rattle.treatment.specs.Treatment.{treated}
use Rattle.managed_entity.specs.declared.vlan.VlanConfig.{VlanConfig}
use Rattle.mib_state.specs.Entities.{Entities, find}
use Rattle.managed_entity.specs.Instance.{Instance}
use Rattle.mib_state.specs.Attached.{table_of_port}
use Rattle.managed_entity.specs.Shown.{vlan_instance}
use Rattle.frame_meaning.specs.declared.reason.Reason.TheVariants.{NoRule, RuleDiscard}
use Rattle.frame_meaning.specs.Meaning.{Table, entry_for, table_at, table_of, tags_by}
use Rattle.frame_meaning.proofs.Numbers.{two_bytes}

-- the table of an instance, by the fields that code keeps it in
pub table_is : (n : ℕ) (vlan : VlanConfig) → vlan.settings.input_tpid < 2 ^ 16 → vlan.settings.output_tpid < 2 ^ 16
    → table_of (vlan_instance n vlan) ≡ record { settings = vlan.settings; entries = vlan.table }
table_is n vlan input output = rw (two_bytes vlan.settings.input_tpid input, two_bytes vlan.settings.output_tpid output) refl

-- the table of a port, as it is looked up
pub at_none : (e : Entities) (port : ℕ) → None ≡ table_of_port e port → None ≡ table_at e port
unfolding table_at
at_none e port none = rw (sym none) refl

pub at_absent : (e : Entities) (port n : ℕ) → Some n ≡ table_of_port e port → None ≡ find n e.vlans → None ≡ table_at e port
unfolding table_at
at_absent e port n there absent = rw (sym there, sym absent) refl

pub at_some : (e : Entities) (port n : ℕ) (i : Instance) → Some n ≡ table_of_port e port → Some i ≡ find n e.vlans → Some (table_of i) ≡ table_at e port
unfolding table_at
at_some e port n i there held = rw (sym there, sym held) refl

-- the tags that a frame leaves with by the entry that is used for it
pub left_tags : (table : Table) (frame : Reading) (entry : List ℕ) (tags : List TagFields) → entry_for table frame ≡ Some entry
    → Some tags ≡ treated entry table.settings frame.tags (dscp_of frame.rest) → tags_by table frame ≡ Ok tags
unfolding tags_by
left_tags table frame entry tags used is = rw (used, sym is) refl

pub discarded : (table : Table) (frame : Reading) (entry : List ℕ) → entry_for table frame ≡ Some entry
    → None ≡ treated entry table.settings frame.tags (dscp_of frame.rest) → tags_by table frame ≡ Err RuleDiscard
unfolding tags_by
discarded table frame entry used is = rw (used, sym is) refl

pub no_rule : (table : Table) (frame : Reading) → entry_for table frame ≡ None → tags_by table frame ≡ Err NoRule
unfolding tags_by
no_rule table frame none = rw none refl
