-- What an entry means (ITU-T G.988, 9.3.13): its codes as filters, treatments and a rank.
use Rattle.std.specs.Prelude.{◌≡◌, ℕ, Bool, true, false, ◌&&◌, ◌||◌, List, Option, Some, None, if◌then◌else◌, ◌==◌, nat_lt, nat_le}
use Rattle.vlan_rule.specs.declared.filter.PriorityFilter.{PriorityFilter}
use Rattle.vlan_rule.specs.declared.filter.PriorityFilter.TheVariants as priority
use Rattle.vlan_rule.specs.declared.filter.VidFilter.{VidFilter}
use Rattle.vlan_rule.specs.declared.filter.VidFilter.TheVariants as vid
use Rattle.vlan_rule.specs.declared.filter.TpidFilter.{TpidFilter}
use Rattle.vlan_rule.specs.declared.filter.TpidFilter.TheVariants as tpid
use Rattle.vlan_rule.specs.declared.filter.EthertypeFilter.{EthertypeFilter}
use Rattle.vlan_rule.specs.declared.filter.EthertypeFilter.TheVariants as ethertype
use Rattle.vlan_rule.specs.declared.filter.TagFilter.{TagFilter}
use Rattle.vlan_rule.specs.declared.filter.Filter.{Filter}
use Rattle.vlan_rule.specs.declared.filter.Filter.TheVariants as filter
use Rattle.vlan_rule.specs.declared.kind.Kind.{Kind}
use Rattle.vlan_rule.specs.declared.kind.Kind.TheVariants.{NoTag, OneTagDefault, OneTag, TwoTagDefault, TwoTag}
use Rattle.vlan_rule.specs.declared.layout.TagCodes.{TagCodes}
use Rattle.vlan_rule.specs.declared.rank.Rank.{Rank}
use Rattle.vlan_rule.specs.declared.rank.Rank.TheVariants.{Ordinary, Default, Predefined}
use Rattle.vlan_rule.specs.declared.treatment.PrioritySource.{PrioritySource}
use Rattle.vlan_rule.specs.declared.treatment.PrioritySource.TheVariants as from_priority
use Rattle.vlan_rule.specs.declared.treatment.VidSource.{VidSource}
use Rattle.vlan_rule.specs.declared.treatment.VidSource.TheVariants as from_vid
use Rattle.vlan_rule.specs.declared.treatment.TpidSource.{TpidSource}
use Rattle.vlan_rule.specs.declared.treatment.TpidSource.TheVariants as from_tpid
use Rattle.vlan_rule.specs.declared.treatment.EligibleSource.{EligibleSource}
use Rattle.vlan_rule.specs.declared.treatment.EligibleSource.TheVariants as from_eligible
use Rattle.vlan_rule.specs.declared.treatment.AddedTag.{AddedTag}
use Rattle.vlan_rule.specs.declared.treatment.Treatment.{Treatment}
use Rattle.vlan_rule.specs.declared.treatment.Treatment.TheVariants as treatment
use Rattle.vlan_rule.specs.Entry.{codes_of, discards, filter_ethertype, filter_inner, filter_outer, key_of, kind_of, refusal_of, tags_to_remove, treatment_inner, treatment_outer, value_of}
use Rattle.vlan_rule.specs.Table.{is_predefined}

-- ---- filters

abbrev pub priority_filter : ℕ → PriorityFilter
priority_filter code = if code == 8 then priority.Any else priority.Exactly code

abbrev pub vid_filter : ℕ → VidFilter
vid_filter code = if code == 4096 then vid.Any else vid.Exactly code

abbrev pub tpid_filter : ℕ → TpidFilter
tpid_filter code =
    if code == 0 then tpid.Any
    else (if code == 4 then tpid.Standard
    else (if code == 5 then tpid.Input
    else (if code == 6 then tpid.InputNotEligible
    else tpid.InputEligible)))

abbrev pub ethertype_filter : ℕ → EthertypeFilter
ethertype_filter code =
    if code == 0 then ethertype.Any
    else (if code == 1 then ethertype.Ipv4
    else (if code == 2 then ethertype.Pppoe
    else (if code == 3 then ethertype.Arp
    else (if code == 4 then ethertype.Ipv6
    else ethertype.Eapol))))

abbrev pub tag_filter : TagCodes → TagFilter
tag_filter codes = record { priority = priority_filter codes.priority; vid = vid_filter codes.vid; tpid = tpid_filter codes.tpid }

-- the filters that count by a kind, of an outer and an inner tag
abbrev pub filter_by : Kind → TagCodes → TagCodes → Filter
filter_by NoTag outer inner = filter.NoTag
filter_by OneTagDefault outer inner = filter.OneTagDefault
filter_by OneTag outer inner = filter.OneTag (tag_filter inner)
filter_by TwoTagDefault outer inner = filter.TwoTagDefault
filter_by TwoTag outer inner = filter.TwoTag (tag_filter outer) (tag_filter inner)

unfoldable pub filter_of : List ℕ → Filter
filter_of entry = filter_by (kind_of entry) (codes_of filter_outer entry) (codes_of filter_inner entry)

unfoldable pub ethertype_of : List ℕ → EthertypeFilter
ethertype_of entry = ethertype_filter (value_of filter_ethertype entry)

-- ---- treatments

abbrev pub priority_source : ℕ → PrioritySource
priority_source code =
    if code == 8 then from_priority.Inner
    else (if code == 9 then from_priority.Outer
    else (if code == 10 then from_priority.Dscp
    else from_priority.Fixed code))

abbrev pub vid_source : ℕ → VidSource
vid_source code =
    if code == 4096 then from_vid.Inner
    else (if code == 4097 then from_vid.Outer
    else from_vid.Fixed code)

abbrev pub tpid_source : ℕ → TpidSource
tpid_source code =
    if code == 0 then from_tpid.Inner
    else (if code == 1 then from_tpid.Outer
    else (if code == 4 then from_tpid.Standard
    else from_tpid.Output))

abbrev pub eligible_source : ℕ → EligibleSource
eligible_source code =
    if code == 0 || code == 2 then from_eligible.Inner
    else (if code == 1 || code == 3 then from_eligible.Outer
    else (if code == 7 then from_eligible.Set
    else from_eligible.Clear))

-- the tag that a treatment adds; a priority of 15 adds none
abbrev pub addition : TagCodes → Option AddedTag
addition codes =
    if codes.priority == 15 then None
    else Some (record {
      priority = priority_source codes.priority;
      vid = vid_source codes.vid;
      tpid = tpid_source codes.tpid;
      eligible = eligible_source codes.tpid;
    })

unfoldable pub treatment_of : List ℕ → Treatment
treatment_of entry =
    if discards entry then treatment.Discard
    else treatment.Retag (record {
      remove = value_of tags_to_remove entry;
      outer = addition (codes_of treatment_outer entry);
      inner = addition (codes_of treatment_inner entry);
    })

-- ---- rank

-- the rank of a key and a kind
abbrev pub rank_by : Bool → Kind → Rank
rank_by true kind = Predefined
rank_by false NoTag = Ordinary
rank_by false OneTagDefault = Default
rank_by false OneTag = Ordinary
rank_by false TwoTagDefault = Default
rank_by false TwoTag = Ordinary

unfoldable pub rank_of : List ℕ → Rank
rank_of entry = rank_by (is_predefined (key_of entry)) (kind_of entry)

-- the number of a rank: the least is used
abbrev pub rank_number : Rank → ℕ
rank_number Ordinary = 0
rank_number Default = 1
rank_number Predefined = 2

-- ---- what is known of every rule

-- the entry isn't refused, and these are its parts
pub record Means (entry : List ℕ) (filters : Filter) (type : EthertypeFilter) (treats : Treatment) (ranks : Rank) : Type 0 where
  pub accepted : refusal_of entry ≡ None
  pub filter : filters ≡ filter_of entry
  pub ethertype : type ≡ ethertype_of entry
  pub treatment : treats ≡ treatment_of entry
  pub rank : ranks ≡ rank_of entry

-- a fixed priority is under 8
abbrev pub priority_fits : PrioritySource → Bool
priority_fits (from_priority.Fixed priority) = nat_lt priority 8
priority_fits from_priority.Inner = true
priority_fits from_priority.Outer = true
priority_fits from_priority.Dscp = true

-- a fixed VID is under 4095
abbrev pub vid_fits : VidSource → Bool
vid_fits (from_vid.Fixed vid) = nat_lt vid 4095
vid_fits from_vid.Inner = true
vid_fits from_vid.Outer = true

-- the tag that is added, if there is one, has a priority and a VID that a tag can have
abbrev pub addition_fits : Option AddedTag → Bool
addition_fits None = true
addition_fits (Some tag) = priority_fits tag.priority && vid_fits tag.vid

-- two tags at most go, and what is added fits
abbrev pub treatment_fits : Treatment → Bool
treatment_fits treatment.Discard = true
treatment_fits (treatment.Retag retag) = nat_le retag.remove 2 && (addition_fits retag.outer && addition_fits retag.inner)
