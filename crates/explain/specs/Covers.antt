-- When an entry admits every frame that another admits, as far as field by field shows it, and which entry leaves another one no
-- frame (ITU-T G.988, clause 9.3.13).
use Rattle.std.specs.Prelude.{ℕ, Bool, true, false, ◌&&◌, List, Option, None, if◌then◌else◌, ◌==◌, nat_lt, find, length}
use Rattle.vlan_rule.specs.declared.filter.PriorityFilter.{PriorityFilter}
use Rattle.vlan_rule.specs.declared.filter.PriorityFilter.TheVariants as priority
use Rattle.vlan_rule.specs.declared.filter.VidFilter.{VidFilter}
use Rattle.vlan_rule.specs.declared.filter.VidFilter.TheVariants as vid
use Rattle.vlan_rule.specs.declared.filter.TpidFilter.{TpidFilter}
use Rattle.vlan_rule.specs.declared.filter.TpidFilter.TheVariants as tpid
use Rattle.vlan_rule.specs.declared.filter.EthertypeFilter.{EthertypeFilter}
use Rattle.vlan_rule.specs.declared.filter.EthertypeFilter.TheVariants as ethertype
use Rattle.vlan_rule.specs.declared.filter.TagFilter.{TagFilter}
use Rattle.vlan_rule.specs.declared.filter.Filter.{Filter}
use Rattle.vlan_rule.specs.Meaning.{ethertype_of, filter_of}
use Rattle.vlan_rule.specs.Choice.{entry_at, is_before}
use Rattle.explain.specs.Mismatch.{inner_filter, outer_filter, tag_count}
use Rattle.explain.specs.Order.{tried_order}

-- ---- field by field

abbrev pub covers_priority : PriorityFilter → PriorityFilter → Bool
covers_priority priority.Any other = true
covers_priority (priority.Exactly p) priority.Any = false
covers_priority (priority.Exactly p) (priority.Exactly q) = p == q

abbrev pub covers_vid : VidFilter → VidFilter → Bool
covers_vid vid.Any other = true
covers_vid (vid.Exactly v) vid.Any = false
covers_vid (vid.Exactly v) (vid.Exactly w) = v == w

-- the input TPID, whatever the drop eligible indicator, covers it with either
abbrev pub covers_tpid : TpidFilter → TpidFilter → Bool
covers_tpid tpid.Any other = true
covers_tpid tpid.Standard tpid.Standard = true
covers_tpid tpid.Standard _ = false
covers_tpid tpid.Input tpid.Any = false
covers_tpid tpid.Input tpid.Standard = false
covers_tpid tpid.Input _ = true
covers_tpid tpid.InputNotEligible tpid.InputNotEligible = true
covers_tpid tpid.InputNotEligible _ = false
covers_tpid tpid.InputEligible tpid.InputEligible = true
covers_tpid tpid.InputEligible _ = false

abbrev pub covers_ethertype : EthertypeFilter → EthertypeFilter → Bool
covers_ethertype ethertype.Any other = true
covers_ethertype ethertype.Ipv4 ethertype.Ipv4 = true
covers_ethertype ethertype.Ipv4 _ = false
covers_ethertype ethertype.Pppoe ethertype.Pppoe = true
covers_ethertype ethertype.Pppoe _ = false
covers_ethertype ethertype.Arp ethertype.Arp = true
covers_ethertype ethertype.Arp _ = false
covers_ethertype ethertype.Ipv6 ethertype.Ipv6 = true
covers_ethertype ethertype.Ipv6 _ = false
covers_ethertype ethertype.Eapol ethertype.Eapol = true
covers_ethertype ethertype.Eapol _ = false

abbrev pub covers_tag : TagFilter → TagFilter → Bool
covers_tag f other = covers_priority f.priority other.priority && (covers_vid f.vid other.vid && covers_tpid f.tpid other.tpid)

-- as many tags, and each field covers that of the other
abbrev pub covers_by : Filter → EthertypeFilter → Filter → EthertypeFilter → Bool
covers_by f e other type =
    tag_count f == tag_count other
    && (covers_tag (outer_filter f) (outer_filter other)
    && (covers_tag (inner_filter f) (inner_filter other)
    && covers_ethertype e type))

unfoldable pub covers : List ℕ → List ℕ → Bool
covers entry other = covers_by (filter_of entry) (ethertype_of entry) (filter_of other) (ethertype_of other)

-- ---- entries that are never used

-- the entry at place j is tried before that at place i, and covers it
abbrev pub is_shadowed_by : List (List ℕ) → ℕ → ℕ → Bool
is_shadowed_by entries i j = is_before entries j i && covers (entry_at entries j) (entry_at entries i)

-- an entry that is tried before the one at place i and covers it, if one does: the first in the order in which they are tried
unfoldable pub shadow_of : List (List ℕ) → ℕ → Option ℕ
shadow_of entries i = if nat_lt i (length entries) then find (is_shadowed_by entries i) (tried_order entries) else None
