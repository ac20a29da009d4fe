-- The keys by which an index groups its entries.
use Rattle.std.specs.Prelude.{ℕ, ◌+◌, ◌*◌, ◌/◌, ◌%◌, Bool, true, false, not, ◌&&◌, ◌||◌, if◌then◌else◌, ◌==◌, nat_lt}
use Rattle.tag_view.specs.Tag.{TagFields, customer_tpid}
use Rattle.vlan_rule.specs.declared.filter.PriorityFilter.{PriorityFilter}
use Rattle.vlan_rule.specs.declared.filter.PriorityFilter.TheVariants as priority
use Rattle.vlan_rule.specs.declared.filter.VidFilter.{VidFilter}
use Rattle.vlan_rule.specs.declared.filter.VidFilter.TheVariants as vid
use Rattle.vlan_rule.specs.declared.filter.TpidFilter.{TpidFilter}
use Rattle.vlan_rule.specs.declared.filter.TpidFilter.TheVariants as tpid
use Rattle.vlan_rule.specs.declared.filter.EthertypeFilter.{EthertypeFilter}
use Rattle.vlan_rule.specs.declared.filter.EthertypeFilter.TheVariants as ethertype
use Rattle.vlan_rule.specs.declared.filter.TagFilter.{TagFilter}
use Rattle.vlan_rule.specs.declared.filter.Filter.{Filter}
use Rattle.vlan_rule.specs.declared.filter.Filter.TheVariants as filter
use Rattle.rule_index.specs.Masks.{bit_of}

-- ---- keys of filters

-- 8: any priority, 9: one that no tag has
abbrev pub priority_key : PriorityFilter → ℕ
priority_key priority.Any = 8
priority_key (priority.Exactly p) = if nat_lt p 8 then p else 9

abbrev pub tpid_key : TpidFilter → ℕ
tpid_key tpid.Any = 0
tpid_key tpid.Standard = 1
tpid_key tpid.Input = 2
tpid_key tpid.InputNotEligible = 3
tpid_key tpid.InputEligible = 4

abbrev pub type_key : EthertypeFilter → ℕ
type_key ethertype.Any = 0
type_key ethertype.Ipv4 = 1
type_key ethertype.Pppoe = 2
type_key ethertype.Arp = 3
type_key ethertype.Ipv6 = 4
type_key ethertype.Eapol = 5

-- ---- filters of every kind

-- the number of tags of a kind
abbrev pub tags_in : Filter → ℕ
tags_in filter.NoTag = 0
tags_in filter.OneTagDefault = 1
tags_in (filter.OneTag inner) = 1
tags_in filter.TwoTagDefault = 2
tags_in (filter.TwoTag outer inner) = 2

-- a filter that doesn't count
abbrev pub any_tag : TagFilter
any_tag = record { priority = priority.Any; vid = vid.Any; tpid = tpid.Any }

abbrev pub outer_in : Filter → TagFilter
outer_in filter.NoTag = any_tag
outer_in filter.OneTagDefault = any_tag
outer_in (filter.OneTag inner) = any_tag
outer_in filter.TwoTagDefault = any_tag
outer_in (filter.TwoTag outer inner) = outer

abbrev pub inner_in : Filter → TagFilter
inner_in filter.NoTag = any_tag
inner_in filter.OneTagDefault = any_tag
inner_in (filter.OneTag inner) = inner
inner_in filter.TwoTagDefault = any_tag
inner_in (filter.TwoTag outer inner) = inner

-- ---- classes of what a frame has

-- the class of a type: the key of the filter that asks for it, or 0
abbrev pub type_class : ℕ → ℕ
type_class type =
    if type == 0x0800 then 1
    else (if type == 0x8863 || type == 0x8864 then 2
    else (if type == 0x0806 then 3
    else (if type == 0x86DD then 4
    else (if type == 0x888E then 5
    else 0))))

-- the code of a tag: whether its TPID is that of a customer tag, whether it is the input TPID, priority, DEI
abbrev pub code_by : Bool → Bool → ℕ → Bool → ℕ
code_by standard input pcp dei = bit_of standard * 32 + bit_of input * 16 + pcp * 2 + bit_of dei

abbrev pub code_of : ℕ → TagFields → ℕ
code_of input tag = code_by (tag.tpid == customer_tpid) (tag.tpid == input) tag.pcp tag.dei

-- ---- which filters admit a class

abbrev pub admits_type : ℕ → EthertypeFilter → Bool
admits_type class f = type_key f == 0 || type_key f == class

abbrev pub admits_priority : ℕ → PriorityFilter → Bool
admits_priority pcp f = priority_key f == 8 || priority_key f == pcp

abbrev pub admits_tpid : Bool → Bool → Bool → TpidFilter → Bool
admits_tpid standard input dei tpid.Any = true
admits_tpid standard input dei tpid.Standard = standard
admits_tpid standard input dei tpid.Input = input
admits_tpid standard input dei tpid.InputNotEligible = input && not dei
admits_tpid standard input dei tpid.InputEligible = input && dei

abbrev pub admits_vid : ℕ → VidFilter → Bool
admits_vid v vid.Any = true
admits_vid v (vid.Exactly w) = v == w

-- by a code, whose parts are read off again
abbrev pub admits_code : ℕ → TagFilter → Bool
admits_code code f = admits_priority (code / 2 % 8) f.priority && admits_tpid (code / 32 == 1) (code / 16 % 2 == 1) (code % 2 == 1) f.tpid

-- whether a filter names a VID, and whether it names none
abbrev pub names_vid : ℕ → VidFilter → Bool
names_vid v vid.Any = false
names_vid v (vid.Exactly w) = v == w

abbrev pub is_any_vid : VidFilter → Bool
is_any_vid vid.Any = true
is_any_vid (vid.Exactly w) = false
