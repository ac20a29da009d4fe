-- How a rule is spelled as an entry (ITU-T G.988, 9.3.13): the codes of its parts, and the entry that
-- has them. Padding is zero.
use Rattle.std.specs.Prelude.{◌<◌, ℕ, ◌+◌, ◌*◌, Bool, true, false, ◌&&◌, ◌==◌, List, Option, Some, None, nat_lt, nat_le}
use Rattle.vlan_rule.specs.declared.filter.PriorityFilter.{PriorityFilter}
use Rattle.vlan_rule.specs.declared.filter.PriorityFilter.TheVariants as priority
use Rattle.vlan_rule.specs.declared.filter.VidFilter.{VidFilter}
use Rattle.vlan_rule.specs.declared.filter.VidFilter.TheVariants as vid
use Rattle.vlan_rule.specs.declared.filter.TpidFilter.{TpidFilter}
use Rattle.vlan_rule.specs.declared.filter.TpidFilter.TheVariants as tpid
use Rattle.vlan_rule.specs.declared.filter.EthertypeFilter.{EthertypeFilter}
use Rattle.vlan_rule.specs.declared.filter.EthertypeFilter.TheVariants as ethertype
use Rattle.vlan_rule.specs.declared.filter.TagFilter.{TagFilter}
use Rattle.vlan_rule.specs.declared.filter.Filter.{Filter}
use Rattle.vlan_rule.specs.declared.filter.Filter.TheVariants as filter
use Rattle.vlan_rule.specs.declared.layout.TagCodes.{TagCodes}
use Rattle.vlan_rule.specs.declared.rank.Rank.{Rank}
use Rattle.vlan_rule.specs.declared.rank.Rank.TheVariants.{Ordinary, Default, Predefined}
use Rattle.vlan_rule.specs.declared.treatment.PrioritySource.{PrioritySource}
use Rattle.vlan_rule.specs.declared.treatment.PrioritySource.TheVariants as from_priority
use Rattle.vlan_rule.specs.declared.treatment.VidSource.{VidSource}
use Rattle.vlan_rule.specs.declared.treatment.VidSource.TheVariants as from_vid
use Rattle.vlan_rule.specs.declared.treatment.TpidSource.{TpidSource}
use Rattle.vlan_rule.specs.declared.treatment.TpidSource.TheVariants as from_tpid
use Rattle.vlan_rule.specs.declared.treatment.EligibleSource.{EligibleSource}
use Rattle.vlan_rule.specs.declared.treatment.EligibleSource.TheVariants as from_eligible
use Rattle.vlan_rule.specs.declared.treatment.AddedTag.{AddedTag}
use Rattle.vlan_rule.specs.declared.treatment.Treatment.{Treatment}
use Rattle.vlan_rule.specs.declared.treatment.Treatment.TheVariants as treatment
use Rattle.vlan_rule.specs.Entry.{entry_of}
use Rattle.vlan_rule.specs.Meaning.{rank_number}

-- ---- filters

abbrev pub priority_filter_is_codable : PriorityFilter → Bool
priority_filter_is_codable priority.Any = true
priority_filter_is_codable (priority.Exactly p) = nat_lt p 8

abbrev pub priority_filter_code : PriorityFilter → ℕ
priority_filter_code priority.Any = 8
priority_filter_code (priority.Exactly p) = p

abbrev pub vid_filter_is_codable : VidFilter → Bool
vid_filter_is_codable vid.Any = true
vid_filter_is_codable (vid.Exactly v) = nat_lt v 4096

abbrev pub vid_filter_code : VidFilter → ℕ
vid_filter_code vid.Any = 4096
vid_filter_code (vid.Exactly v) = v

abbrev pub tpid_filter_code : TpidFilter → ℕ
tpid_filter_code tpid.Any = 0
tpid_filter_code tpid.Standard = 4
tpid_filter_code tpid.Input = 5
tpid_filter_code tpid.InputNotEligible = 6
tpid_filter_code tpid.InputEligible = 7

abbrev pub ethertype_code : EthertypeFilter → ℕ
ethertype_code ethertype.Any = 0
ethertype_code ethertype.Ipv4 = 1
ethertype_code ethertype.Pppoe = 2
ethertype_code ethertype.Arp = 3
ethertype_code ethertype.Ipv6 = 4
ethertype_code ethertype.Eapol = 5

abbrev pub tag_filter_is_codable : TagFilter → Bool
tag_filter_is_codable f = priority_filter_is_codable f.priority && vid_filter_is_codable f.vid

abbrev pub tag_filter_codes : TagFilter → TagCodes
tag_filter_codes f = record { priority = priority_filter_code f.priority; vid = vid_filter_code f.vid; tpid = tpid_filter_code f.tpid }

abbrev pub filter_is_codable : Filter → Bool
filter_is_codable filter.NoTag = true
filter_is_codable filter.OneTagDefault = true
filter_is_codable (filter.OneTag inner) = tag_filter_is_codable inner
filter_is_codable filter.TwoTagDefault = true
filter_is_codable (filter.TwoTag outer inner) = tag_filter_is_codable outer && tag_filter_is_codable inner

-- the codes where the priority alone says something
abbrev pub unsaid_codes : ℕ → ℕ → TagCodes
unsaid_codes priority vid = record { priority = priority; vid = vid; tpid = 0 }

-- the codes of the filters of the outer tag, where a VID that isn't asked for has this code
abbrev pub outer_filter_codes : Filter → ℕ → TagCodes
outer_filter_codes filter.NoTag any_vid = unsaid_codes 15 any_vid
outer_filter_codes filter.OneTagDefault any_vid = unsaid_codes 15 any_vid
outer_filter_codes (filter.OneTag inner) any_vid = unsaid_codes 15 any_vid
outer_filter_codes filter.TwoTagDefault any_vid = unsaid_codes 14 any_vid
outer_filter_codes (filter.TwoTag outer inner) any_vid = tag_filter_codes outer

-- the codes of the filters of the inner tag, likewise
abbrev pub inner_filter_codes : Filter → ℕ → TagCodes
inner_filter_codes filter.NoTag any_vid = unsaid_codes 15 any_vid
inner_filter_codes filter.OneTagDefault any_vid = unsaid_codes 14 any_vid
inner_filter_codes (filter.OneTag inner) any_vid = tag_filter_codes inner
inner_filter_codes filter.TwoTagDefault any_vid = unsaid_codes 14 any_vid
inner_filter_codes (filter.TwoTag outer inner) any_vid = tag_filter_codes inner

-- the code of a VID that isn't asked for: none; in the predefined keys it is 0
abbrev pub any_vid_code : Rank → ℕ
any_vid_code Ordinary = 4096
any_vid_code Default = 4096
any_vid_code Predefined = 0

-- the rank of a filter, where the key isn't a predefined one
abbrev pub filter_rank : Filter → Rank
filter_rank filter.NoTag = Ordinary
filter_rank filter.OneTagDefault = Default
filter_rank (filter.OneTag inner) = Ordinary
filter_rank filter.TwoTagDefault = Default
filter_rank (filter.TwoTag outer inner) = Ordinary

-- ---- treatments

abbrev pub priority_source_is_codable : PrioritySource → Bool
priority_source_is_codable (from_priority.Fixed p) = nat_lt p 8
priority_source_is_codable from_priority.Inner = true
priority_source_is_codable from_priority.Outer = true
priority_source_is_codable from_priority.Dscp = true

abbrev pub priority_source_code : PrioritySource → ℕ
priority_source_code (from_priority.Fixed p) = p
priority_source_code from_priority.Inner = 8
priority_source_code from_priority.Outer = 9
priority_source_code from_priority.Dscp = 10

abbrev pub vid_source_is_codable : VidSource → Bool
vid_source_is_codable (from_vid.Fixed v) = nat_lt v 4095
vid_source_is_codable from_vid.Inner = true
vid_source_is_codable from_vid.Outer = true

abbrev pub vid_source_code : VidSource → ℕ
vid_source_code (from_vid.Fixed v) = v
vid_source_code from_vid.Inner = 4096
vid_source_code from_vid.Outer = 4097

-- whether one code stands for a TPID and a drop eligible indicator of these sources
abbrev pub tpid_source_is_codable : TpidSource → EligibleSource → Bool
tpid_source_is_codable from_tpid.Inner from_eligible.Inner = true
tpid_source_is_codable from_tpid.Inner from_eligible.Outer = false
tpid_source_is_codable from_tpid.Inner from_eligible.Clear = false
tpid_source_is_codable from_tpid.Inner from_eligible.Set = false
tpid_source_is_codable from_tpid.Outer from_eligible.Inner = false
tpid_source_is_codable from_tpid.Outer from_eligible.Outer = true
tpid_source_is_codable from_tpid.Outer from_eligible.Clear = false
tpid_source_is_codable from_tpid.Outer from_eligible.Set = false
tpid_source_is_codable from_tpid.Output e = true
tpid_source_is_codable from_tpid.Standard from_eligible.Inner = false
tpid_source_is_codable from_tpid.Standard from_eligible.Outer = false
tpid_source_is_codable from_tpid.Standard from_eligible.Clear = true
tpid_source_is_codable from_tpid.Standard from_eligible.Set = false

abbrev pub tpid_source_code : TpidSource → EligibleSource → ℕ
tpid_source_code from_tpid.Inner e = 0
tpid_source_code from_tpid.Outer e = 1
tpid_source_code from_tpid.Output from_eligible.Inner = 2
tpid_source_code from_tpid.Output from_eligible.Outer = 3
tpid_source_code from_tpid.Output from_eligible.Clear = 6
tpid_source_code from_tpid.Output from_eligible.Set = 7
tpid_source_code from_tpid.Standard e = 4

abbrev pub added_tag_is_codable : AddedTag → Bool
added_tag_is_codable tag =
    priority_source_is_codable tag.priority && (vid_source_is_codable tag.vid && tpid_source_is_codable tag.tpid tag.eligible)

abbrev pub addition_is_codable : Option AddedTag → Bool
addition_is_codable None = true
addition_is_codable (Some tag) = added_tag_is_codable tag

-- the codes of a tag that is added; a priority of 15 adds none
abbrev pub addition_codes : Option AddedTag → TagCodes
addition_codes None = unsaid_codes 15 0
addition_codes (Some tag) = record { priority = priority_source_code tag.priority; vid = vid_source_code tag.vid; tpid = tpid_source_code tag.tpid tag.eligible }

abbrev pub treatment_is_codable : Treatment → Bool
treatment_is_codable treatment.Discard = true
treatment_is_codable (treatment.Retag retag) = nat_le retag.remove 2 && (addition_is_codable retag.outer && addition_is_codable retag.inner)

-- the code of how many tags go
abbrev pub removal_code : Treatment → ℕ
removal_code treatment.Discard = 3
removal_code (treatment.Retag retag) = retag.remove

abbrev pub outer_addition_codes : Treatment → TagCodes
outer_addition_codes treatment.Discard = addition_codes None
outer_addition_codes (treatment.Retag retag) = addition_codes retag.outer

abbrev pub inner_addition_codes : Treatment → TagCodes
inner_addition_codes treatment.Discard = addition_codes None
inner_addition_codes (treatment.Retag retag) = addition_codes retag.inner

-- ---- entries

-- whether some entry has these parts
abbrev pub are_codable : Filter → Treatment → Bool
are_codable f t = filter_is_codable f && treatment_is_codable t

-- whether the predefined key of a filter's kind is there, and has such a filter
abbrev pub is_of_predefined : Filter → Bool
is_of_predefined filter.NoTag = true
is_of_predefined filter.OneTagDefault = true
is_of_predefined (filter.OneTag inner) = false
is_of_predefined filter.TwoTagDefault = true
is_of_predefined (filter.TwoTag outer inner) = false

-- whether some entry with these filters has this rank; the predefined keys ask for no Ethertype
abbrev pub rank_is_codable : Filter → EthertypeFilter → Rank → Bool
rank_is_codable f type Ordinary = rank_number (filter_rank f) == 0
rank_is_codable f type Default = rank_number (filter_rank f) == 1
rank_is_codable f type Predefined = is_of_predefined f && ethertype_code type == 0

-- whether some entry means this
abbrev pub is_spellable : Filter → EthertypeFilter → Treatment → Rank → Bool
is_spellable f type treats rank = are_codable f treats && rank_is_codable f type rank

-- each code fits its field
pub record IsTagCodes (codes : TagCodes) : Type 0 where
  pub priority : codes.priority < 16
  pub vid : codes.vid < 8192
  pub tpid : codes.tpid < 8

-- the three codes of a filter or a treatment side by side, 4, 13 and 3 bits wide
abbrev pub tag_number : TagCodes → ℕ
tag_number codes = (codes.priority * 0x2000 + codes.vid) * 8 + codes.tpid

-- words 1 and 2: the outer and the inner filters, each ahead of 12 bits, and the Ethertype in the last 4
abbrev pub spelled_key : TagCodes → TagCodes → ℕ → ℕ
spelled_key outer inner ethertype = (tag_number outer * 0x100000000 + tag_number inner) * 0x1000 + ethertype

-- words 3 and 4: the tags to remove, and the outer and the inner treatment in the last 20 bits
abbrev pub spelled_rest : ℕ → TagCodes → TagCodes → ℕ
spelled_rest remove outer inner = (remove * 0x40000000 + tag_number outer) * 0x100000000 + tag_number inner

-- the numbers in the first and in the last eight bytes of the entry of these parts
abbrev pub spelled_key_of : Filter → EthertypeFilter → Rank → ℕ
spelled_key_of f type rank = spelled_key (outer_filter_codes f (any_vid_code rank)) (inner_filter_codes f (any_vid_code rank)) (ethertype_code type)

abbrev pub spelled_rest_of : Treatment → ℕ
spelled_rest_of treats = spelled_rest (removal_code treats) (outer_addition_codes treats) (inner_addition_codes treats)

-- the entry of these parts
abbrev pub spelled : Filter → EthertypeFilter → Treatment → Rank → List ℕ
spelled f type treats rank = entry_of (spelled_key_of f type rank) (spelled_rest_of treats)
