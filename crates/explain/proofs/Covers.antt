-- An entry that covers another admits every frame that it admits.
use Rattle.std.proofs.Common.{◌≡◌, ◌==◌, ℕ, true, not, ◌&&◌, List, [], ◌∷◌, length, refl, ap, sym, ◌∙◌}
use Rattle.std.proofs.lemmas.Bool.{and_from, and_parts, eqb-true}
use Rattle.tag_view.specs.Tag.{TagFields}
use Rattle.vlan_rule.specs.declared.filter.PriorityFilter.{PriorityFilter}
use Rattle.vlan_rule.specs.declared.filter.PriorityFilter.TheVariants as priority
use Rattle.vlan_rule.specs.declared.filter.VidFilter.{VidFilter}
use Rattle.vlan_rule.specs.declared.filter.VidFilter.TheVariants as vid
use Rattle.vlan_rule.specs.declared.filter.TpidFilter.{TpidFilter}
use Rattle.vlan_rule.specs.declared.filter.TpidFilter.TheVariants as tpid
use Rattle.vlan_rule.specs.declared.filter.EthertypeFilter.{EthertypeFilter}
use Rattle.vlan_rule.specs.declared.filter.EthertypeFilter.TheVariants as ethertype
use Rattle.vlan_rule.specs.declared.filter.TagFilter.{TagFilter}
use Rattle.vlan_rule.specs.declared.filter.Filter.{Filter}
use Rattle.vlan_rule.specs.declared.rule.Rule.{Rule}
use Rattle.vlan_rule.specs.Meaning.{ethertype_of, filter_of}
use Rattle.vlan_rule.specs.Rule.{IsRuleOf}
use Rattle.vlan_rule.specs.Choice.{are_tags, has_priority, has_tpid, has_type, has_vid, is_tag, matches}
use Rattle.treatment.specs.Treatment.{inner_of}
use Rattle.explain.specs.Mismatch.{inner_filter, outer_filter, tag_count}
use Rattle.explain.specs.Covers.{covers, covers_by, covers_ethertype, covers_priority, covers_tag, covers_tpid, covers_vid}
use Rattle.explain.proofs.Admits.{admits, are_tags_admits, on_inner, on_outer}

-- ---- field by field

priority_sound : (f other : PriorityFilter) (tag : TagFields) → covers_priority f other ≡ true → has_priority other tag ≡ true → has_priority f tag ≡ true
priority_sound priority.Any other tag covered admitted = refl
priority_sound (priority.Exactly p) priority.Any tag covered admitted = cc
priority_sound (priority.Exactly p) (priority.Exactly q) tag covered admitted = rw (eqb-true p q covered) admitted

vid_sound : (f other : VidFilter) (tag : TagFields) → covers_vid f other ≡ true → has_vid other tag ≡ true → has_vid f tag ≡ true
vid_sound vid.Any other tag covered admitted = refl
vid_sound (vid.Exactly v) vid.Any tag covered admitted = cc
vid_sound (vid.Exactly v) (vid.Exactly w) tag covered admitted = rw (eqb-true v w covered) admitted

tpid_sound : (input : ℕ) (f other : TpidFilter) (tag : TagFields) → covers_tpid f other ≡ true → has_tpid input other tag ≡ true → has_tpid input f tag ≡ true
tpid_sound input tpid.Any other tag covered admitted = refl
tpid_sound input tpid.Standard tpid.Any tag covered admitted = cc
tpid_sound input tpid.Standard tpid.Standard tag covered admitted = admitted
tpid_sound input tpid.Standard tpid.Input tag covered admitted = cc
tpid_sound input tpid.Standard tpid.InputNotEligible tag covered admitted = cc
tpid_sound input tpid.Standard tpid.InputEligible tag covered admitted = cc
tpid_sound input tpid.Input tpid.Any tag covered admitted = cc
tpid_sound input tpid.Input tpid.Standard tag covered admitted = cc
tpid_sound input tpid.Input tpid.Input tag covered admitted = admitted
tpid_sound input tpid.Input tpid.InputNotEligible tag covered admitted = (and_parts (tag.tpid == input) (not tag.dei) admitted).0
tpid_sound input tpid.Input tpid.InputEligible tag covered admitted = (and_parts (tag.tpid == input) tag.dei admitted).0
tpid_sound input tpid.InputNotEligible tpid.Any tag covered admitted = cc
tpid_sound input tpid.InputNotEligible tpid.Standard tag covered admitted = cc
tpid_sound input tpid.InputNotEligible tpid.Input tag covered admitted = cc
tpid_sound input tpid.InputNotEligible tpid.InputNotEligible tag covered admitted = admitted
tpid_sound input tpid.InputNotEligible tpid.InputEligible tag covered admitted = cc
tpid_sound input tpid.InputEligible tpid.Any tag covered admitted = cc
tpid_sound input tpid.InputEligible tpid.Standard tag covered admitted = cc
tpid_sound input tpid.InputEligible tpid.Input tag covered admitted = cc
tpid_sound input tpid.InputEligible tpid.InputNotEligible tag covered admitted = cc
tpid_sound input tpid.InputEligible tpid.InputEligible tag covered admitted = admitted

ethertype_sound : (f other : EthertypeFilter) (type : ℕ) → covers_ethertype f other ≡ true → has_type other type ≡ true → has_type f type ≡ true
ethertype_sound ethertype.Any other type covered admitted = refl
ethertype_sound ethertype.Ipv4 ethertype.Any type covered admitted = cc
ethertype_sound ethertype.Ipv4 ethertype.Ipv4 type covered admitted = admitted
ethertype_sound ethertype.Ipv4 ethertype.Pppoe type covered admitted = cc
ethertype_sound ethertype.Ipv4 ethertype.Arp type covered admitted = cc
ethertype_sound ethertype.Ipv4 ethertype.Ipv6 type covered admitted = cc
ethertype_sound ethertype.Ipv4 ethertype.Eapol type covered admitted = cc
ethertype_sound ethertype.Pppoe ethertype.Any type covered admitted = cc
ethertype_sound ethertype.Pppoe ethertype.Ipv4 type covered admitted = cc
ethertype_sound ethertype.Pppoe ethertype.Pppoe type covered admitted = admitted
ethertype_sound ethertype.Pppoe ethertype.Arp type covered admitted = cc
ethertype_sound ethertype.Pppoe ethertype.Ipv6 type covered admitted = cc
ethertype_sound ethertype.Pppoe ethertype.Eapol type covered admitted = cc
ethertype_sound ethertype.Arp ethertype.Any type covered admitted = cc
ethertype_sound ethertype.Arp ethertype.Ipv4 type covered admitted = cc
ethertype_sound ethertype.Arp ethertype.Pppoe type covered admitted = cc
ethertype_sound ethertype.Arp ethertype.Arp type covered admitted = admitted
ethertype_sound ethertype.Arp ethertype.Ipv6 type covered admitted = cc
ethertype_sound ethertype.Arp ethertype.Eapol type covered admitted = cc
ethertype_sound ethertype.Ipv6 ethertype.Any type covered admitted = cc
ethertype_sound ethertype.Ipv6 ethertype.Ipv4 type covered admitted = cc
ethertype_sound ethertype.Ipv6 ethertype.Pppoe type covered admitted = cc
ethertype_sound ethertype.Ipv6 ethertype.Arp type covered admitted = cc
ethertype_sound ethertype.Ipv6 ethertype.Ipv6 type covered admitted = admitted
ethertype_sound ethertype.Ipv6 ethertype.Eapol type covered admitted = cc
ethertype_sound ethertype.Eapol ethertype.Any type covered admitted = cc
ethertype_sound ethertype.Eapol ethertype.Ipv4 type covered admitted = cc
ethertype_sound ethertype.Eapol ethertype.Pppoe type covered admitted = cc
ethertype_sound ethertype.Eapol ethertype.Arp type covered admitted = cc
ethertype_sound ethertype.Eapol ethertype.Ipv6 type covered admitted = cc
ethertype_sound ethertype.Eapol ethertype.Eapol type covered admitted = admitted

tag_sound : (input : ℕ) (f other : TagFilter) (tag : TagFields) → covers_tag f other ≡ true → is_tag input other tag ≡ true → is_tag input f tag ≡ true
tag_sound input f other tag covered admitted =
    let (by_priority, by_others) = and_parts (covers_priority f.priority other.priority) (covers_vid f.vid other.vid && covers_tpid f.tpid other.tpid) covered in
    let (by_vid, by_tpid) = and_parts (covers_vid f.vid other.vid) (covers_tpid f.tpid other.tpid) by_others in
    let (has_priority, has_others) = and_parts (has_priority other.priority tag) (has_vid other.vid tag && has_tpid input other.tpid tag) admitted in
    let (has_vid, has_tpid) = and_parts (has_vid other.vid tag) (has_tpid input other.tpid tag) has_others in
    and_from _ _ (priority_sound f.priority other.priority tag by_priority has_priority)
    (and_from _ _ (vid_sound f.vid other.vid tag by_vid has_vid) (tpid_sound input f.tpid other.tpid tag by_tpid has_tpid))

-- ---- the tags, and the type

outer_sound : (input : ℕ) (f other : TagFilter) (tags : List TagFields) → covers_tag f other ≡ true
    → on_outer (is_tag input other) tags ≡ true → on_outer (is_tag input f) tags ≡ true
outer_sound input f other [] covered admitted = refl
outer_sound input f other (tag ∷ rest) covered admitted = tag_sound input f other tag covered admitted

inner_sound : (input : ℕ) (f other : TagFilter) (tags : List TagFields) → covers_tag f other ≡ true
    → on_inner (is_tag input other) tags ≡ true → on_inner (is_tag input f) tags ≡ true
inner_sound input f other [] covered admitted = refl
inner_sound input f other (tag ∷ rest) covered admitted = tag_sound input f other (inner_of (tag ∷ rest)) covered admitted

-- what the tests of two filters say
record Covered (f : Filter) (e : EthertypeFilter) (other : Filter) (type : EthertypeFilter) : Type 0 where
  pub count : tag_count f ≡ tag_count other
  pub outer : covers_tag (outer_filter f) (outer_filter other) ≡ true
  pub inner : covers_tag (inner_filter f) (inner_filter other) ≡ true
  pub ethertype : covers_ethertype e type ≡ true

covered_by : (f : Filter) (e : EthertypeFilter) (other : Filter) (type : EthertypeFilter) → covers_by f e other type ≡ true → Covered f e other type
covered_by f e other type covered =
    let first = and_parts (tag_count f == tag_count other) _ covered in
    let second = and_parts (covers_tag (outer_filter f) (outer_filter other)) _ first.1 in
    let third = and_parts (covers_tag (inner_filter f) (inner_filter other)) _ second.1 in
    record { count = eqb-true (tag_count f) (tag_count other) first.0; outer = second.0; inner = third.0; ethertype = third.1 }

tags_sound : (input : ℕ) (f : Filter) (e : EthertypeFilter) (other : Filter) (type : EthertypeFilter) (tags : List TagFields) → Covered f e other type
    → admits input other tags ≡ true → admits input f tags ≡ true
tags_sound input f e other type tags covered admitted =
    let first = and_parts (length tags == tag_count other) _ admitted in
    let second = and_parts (on_outer (is_tag input (outer_filter other)) tags) _ first.1 in
    and_from _ _ (ap (λ (n : ℕ). length tags == n) covered.count ∙ first.0)
    (and_from _ _ (outer_sound input (outer_filter f) (outer_filter other) tags covered.outer second.0)
    (inner_sound input (inner_filter f) (inner_filter other) tags covered.inner second.1))

-- an entry that covers another matches every frame that it matches
pub covers_sound : (entry other : List ℕ) (input : ℕ) (tags : List TagFields) (type : ℕ) → covers entry other ≡ true
    → matches input tags type other ≡ true → matches input tags type entry ≡ true
unfolding covers matches
covers_sound entry other input tags type covered matched =
    let by = covered_by (filter_of entry) (ethertype_of entry) (filter_of other) (ethertype_of other) covered in
    let parts = and_parts (are_tags input (filter_of other) tags) (has_type (ethertype_of other) type) matched in
    and_from _ _
    (are_tags_admits input (filter_of entry) tags
    ∙ tags_sound input (filter_of entry) (ethertype_of entry) (filter_of other) (ethertype_of other) tags by (sym (are_tags_admits input (filter_of other) tags) ∙ parts.0))
    (ethertype_sound (ethertype_of entry) (ethertype_of other) type by.ethertype parts.1)

-- the same by the rules of the entries
pub rules_cover : (entry other : List ℕ) (rule rule' : Rule) → IsRuleOf entry rule → IsRuleOf other rule'
    → covers_by rule.filter rule.ethertype rule'.filter rule'.ethertype ≡ covers entry other
unfolding covers
rules_cover entry other rule rule' means means' =
    ap (λ (f : Filter). covers_by f rule.ethertype rule'.filter rule'.ethertype) means.filter
    ∙ ap (λ (e : EthertypeFilter). covers_by (filter_of entry) e rule'.filter rule'.ethertype) means.ethertype
    ∙ ap (λ (f : Filter). covers_by (filter_of entry) (ethertype_of entry) f rule'.ethertype) means'.filter
    ∙ ap (λ (e : EthertypeFilter). covers_by (filter_of entry) (ethertype_of entry) (filter_of other) e) means'.ethertype
