-- What is asked of the value of a field.
use Rattle.std.specs.Prelude.{ℕ, Bool, true, not, ◌&&◌, ◌==◌, nat_le}
use Rattle.tag_view.specs.Tag.{customer_tpid, is_tag_type}
use Rattle.vlan_rule.specs.declared.filter.PriorityFilter.{PriorityFilter}
use Rattle.vlan_rule.specs.declared.filter.PriorityFilter.TheVariants as priority
use Rattle.vlan_rule.specs.declared.filter.VidFilter.{VidFilter}
use Rattle.vlan_rule.specs.declared.filter.VidFilter.TheVariants as vid
use Rattle.vlan_rule.specs.declared.filter.TpidFilter.{TpidFilter}
use Rattle.vlan_rule.specs.declared.filter.TpidFilter.TheVariants as tpid
use Rattle.vlan_rule.specs.Choice.{has_type}
use Rattle.frame_rows.specs.declared.ask.Ask.{Ask}
use Rattle.frame_rows.specs.declared.ask.Ask.TheVariants.{Any, Exactly, Between, TagType, NoTagType, Ethertype}

-- a TPID is as a filter asks, whatever the drop eligible indicator
abbrev pub is_tpid : TpidFilter → ℕ → ℕ → Bool
is_tpid tpid.Any input type = true
is_tpid tpid.Standard input type = type == customer_tpid
is_tpid tpid.Input input type = type == input
is_tpid tpid.InputNotEligible input type = type == input
is_tpid tpid.InputEligible input type = type == input

-- a value is as it asks
abbrev pub admits : Ask → ℕ → Bool
admits Any value = true
admits (Exactly only) value = value == only
admits (Between least most) value = nat_le least value && nat_le value most
admits (TagType input filter) value = is_tag_type input value && is_tpid filter input value
admits (NoTagType input filter) value = not (is_tag_type input value) && has_type filter value
admits (Ethertype filter) value = has_type filter value

-- ---- what a filter of a tag asks of its fields

abbrev pub vid_ask : VidFilter → Ask
vid_ask vid.Any = Any
vid_ask (vid.Exactly v) = Exactly v

abbrev pub priority_ask : PriorityFilter → Ask
priority_ask priority.Any = Any
priority_ask (priority.Exactly p) = Exactly p

-- of the drop eligible indicator, 0 or 1
abbrev pub eligible_ask : TpidFilter → Ask
eligible_ask tpid.Any = Any
eligible_ask tpid.Standard = Any
eligible_ask tpid.Input = Any
eligible_ask tpid.InputNotEligible = Exactly 0
eligible_ask tpid.InputEligible = Exactly 1
