-- Worked examples, computed.
use Rattle.std.proofs.Common.{◌≡◌, ℕ, true, false, List, [], ◌∷◌, ◌++◌, Some, None, refl}
use Rattle.std.specs.Prelude.{◌^◌, IsTrue, Option, nat_lt, replicate}
use Rattle.tag_view.specs.Frame.{fault_of, frame_of}
use Rattle.tag_view.specs.Dscp.{dscp_of, group_of}
use Rattle.vlan_rule.specs.declared.filter.PriorityFilter.TheVariants as priority
use Rattle.vlan_rule.specs.declared.filter.VidFilter.TheVariants as vid
use Rattle.vlan_rule.specs.declared.filter.EthertypeFilter.TheVariants as ethertype
use Rattle.vlan_rule.specs.declared.treatment.PrioritySource.{PrioritySource}
use Rattle.vlan_rule.specs.declared.treatment.PrioritySource.TheVariants as from_priority
use Rattle.vlan_rule.specs.declared.treatment.VidSource.TheVariants as from_vid
use Rattle.vlan_rule.specs.declared.treatment.TpidSource.{TpidSource}
use Rattle.vlan_rule.specs.declared.treatment.TpidSource.TheVariants as from_tpid
use Rattle.vlan_rule.specs.declared.treatment.EligibleSource.TheVariants as from_eligible
use Rattle.vlan_rule.specs.declared.treatment.AddedTag.{AddedTag}
use Rattle.vlan_rule.specs.Entry.{key_of, kind_of, number_of, value_of}
use Rattle.vlan_rule.specs.Meaning.{ethertype_of, filter_of, rank_of, treatment_of}
use Rattle.vlan_rule.specs.Table.{predefined}
use Rattle.vlan_rule.specs.Choice.{choice, matches}
use Rattle.treatment.specs.Treatment.{treated, treated_by}
use Rattle.pmapper.specs.Mapper.{pointer_of, priority_of}
use Rattle.managed_entity.specs.Instance.{Instance}
use Rattle.mib_state.specs.Entities.{Entities}
use Rattle.frame_meaning.specs.declared.reason.Reason.TheVariants.{RuleDiscard, NoMapper}
use Rattle.frame_meaning.specs.Meaning.{carries_upstream, entry_for, forwarded_by, gem_port_at, gem_port_behind, gem_port_of, input_tpid_of, mapper_at, meaning, port_id_of, table_at, tags_at, tags_by}
use Rattle.frame_expectation.specs.declared.filter.TagCondition.{TagCondition}
use Rattle.frame_expectation.specs.declared.filter.TypeCondition.TheVariants as type
use Rattle.frame_expectation.specs.declared.filter.FrameFilter.{FrameFilter}
use Rattle.frame_expectation.specs.declared.wanted.WantedEnding.{WantedEnding}
use Rattle.frame_expectation.specs.declared.wanted.WantedEnding.TheVariants.{Any, Leave, Dropped, DroppedFor, Gem}
use Rattle.frame_expectation.specs.declared.wanted.WantedTag.{WantedTag}
use Rattle.frame_expectation.specs.declared.wanted.WantedTreatment.{WantedTreatment}
use Rattle.frame_expectation.specs.declared.wanted.WantedTreatment.TheVariants as treatment
use Rattle.frame_expectation.specs.declared.expectation.Expectation.{Expectation}
use Rattle.frame_expectation.specs.Expectation.{admits, meets}

-- ---- the entities

-- GEM port network CTP 0x0401 of port-ID 1024, both ways
abbrev gem_port : Instance
gem_port = record { number = 0x0401; values = (0x04 ∷ 0x00 ∷ []) ∷ (0x80 ∷ 0x01 ∷ []) ∷ (3 ∷ []) ∷ []; entries = [] }

-- GEM interworking termination point 0x0501 to it
abbrev point : Instance
point = record { number = 0x0501; values = (0x04 ∷ 0x01 ∷ []) ∷ []; entries = [] }

-- the pointer to that point
abbrev to_point : List ℕ
to_point = 0x05 ∷ 0x01 ∷ []

-- mapper 0x0601 of port 257, with all pointers to the point
abbrev mapper : Instance
mapper =
    record {
      number = 0x0601;
      values =
          (1 ∷ 1 ∷ []) ∷ to_point ∷ to_point ∷ to_point ∷ to_point ∷ to_point ∷ to_point ∷ to_point ∷ to_point ∷ (1 ∷ [])
          ∷ replicate 24 0 ∷ (0 ∷ []) ∷ (1 ∷ []) ∷ [];
      entries = [];
    }

-- table 0x0701 of port 257, with this output TPID, this byte of its DSCP to P-bit mapping from DSCP 45 to 47, and these entries
abbrev table : List ℕ → ℕ → List (List ℕ) → Instance
table output bits entries =
    record {
      number = 0x0701;
      values =
          (2 ∷ []) ∷ (0 ∷ 128 ∷ []) ∷ (0x81 ∷ 0x00 ∷ []) ∷ output ∷ (0 ∷ []) ∷ [] ∷ (1 ∷ 1 ∷ [])
          ∷ (replicate 17 0 ++ (bits ∷ replicate 6 0)) ∷ [];
      entries = entries;
    }

-- frames without a tag get one of VLAN 100, and its priority is 0
abbrev tagging : List ℕ
tagging = 0xf8 ∷ 0 ∷ 0 ∷ 0 ∷ 0xf8 ∷ 0 ∷ 0 ∷ 0 ∷ 0 ∷ 0x0f ∷ 0 ∷ 0 ∷ 0 ∷ 0 ∷ 0x03 ∷ 0x24 ∷ []

-- or that of the DSCP
abbrev marking : List ℕ
marking = 0xf8 ∷ 0 ∷ 0 ∷ 0 ∷ 0xf8 ∷ 0 ∷ 0 ∷ 0 ∷ 0 ∷ 0x0f ∷ 0 ∷ 0 ∷ 0 ∷ 0x0a ∷ 0x03 ∷ 0x24 ∷ []

-- frames with one tag are dropped
abbrev discarding : List ℕ
discarding = 0xf8 ∷ 0 ∷ 0 ∷ 0 ∷ 0xe8 ∷ 0 ∷ 0 ∷ 0 ∷ 0xc0 ∷ 0x0f ∷ 0 ∷ 0 ∷ 0 ∷ 0x0f ∷ 0 ∷ 0 ∷ []

abbrev with_table : Instance → Entities
with_table held = record { sync = 4; mappers = mapper ∷ []; vlans = held ∷ []; interworks = point ∷ []; gem_ports = gem_port ∷ [] }

-- port 257 leads to port-ID 1024, with a tag of VLAN 100 where there was none
abbrev set_up : Entities
set_up = with_table (table (0x81 ∷ 0x00 ∷ []) 0 (predefined ++ tagging ∷ []))

-- and frames with one tag are dropped
abbrev without_tagged : Entities
without_tagged = with_table (table (0x81 ∷ 0x00 ∷ []) 0 (predefined ++ tagging ∷ discarding ∷ []))

-- the output TPID is 0x88A8, DSCP 46 has priority 5, and the added tag has the priority of the DSCP
abbrev marked : Entities
marked = with_table (table (0x88 ∷ 0xa8 ∷ []) 0x28 (predefined ++ marking ∷ []))

-- ---- the frames

abbrev addresses : List ℕ
addresses = 2 ∷ 0 ∷ 0 ∷ 0 ∷ 0 ∷ 1 ∷ 2 ∷ 0 ∷ 0 ∷ 0 ∷ 0 ∷ 2 ∷ []

-- a packet of IPv4 with this DS field
abbrev packet : ℕ → List ℕ
packet field = 0x08 ∷ 0x00 ∷ 0x45 ∷ field ∷ []

-- a tag of VLAN 100 with priority 5
abbrev tag : List ℕ
tag = 0x81 ∷ 0x00 ∷ 0xa0 ∷ 0x64 ∷ []

-- a service tag of VLAN 4095 with priority 1, drop eligible
abbrev service_tag : List ℕ
service_tag = 0x88 ∷ 0xa8 ∷ 0x3f ∷ 0xff ∷ []

abbrev frame : List ℕ → List ℕ → List ℕ
frame tags rest = addresses ++ (tags ++ rest)

-- ---- the expectations

abbrev any_tag : TagCondition
any_tag = record { priority = priority.Any; eligible = None; vid = vid.Any; tpid = None }

abbrev any_frame : FrameFilter
any_frame = record { tags = None; outer = any_tag; inner = any_tag; ethertype = type.Class ethertype.Any; dscp = None }

abbrev with_count : ℕ → FrameFilter
with_count count = record any_frame { tags = Some count }

abbrev of_outer : TagCondition → FrameFilter
of_outer condition = record any_frame { outer = condition }

abbrev of_inner : TagCondition → FrameFilter
of_inner condition = record any_frame { inner = condition }

abbrev expected : ℕ → FrameFilter → WantedEnding → WantedTreatment → Expectation
expected port filter ending by = record { port = port; filter = filter; ending = ending; treatment = by }

-- of a filter alone
abbrev speaks_of : FrameFilter → Expectation
speaks_of filter = expected 257 filter Any treatment.Any

-- of a tag of VLAN 100 that is added, with this priority and this TPID, whose drop eligible indicator is 0
abbrev added : PrioritySource → TpidSource → AddedTag
added from tpid = record { priority = from; vid = from_vid.Fixed 100; tpid = tpid; eligible = from_eligible.Clear }

-- of frames with so many tags that leave by port-ID 1024
abbrev leaving : ℕ → WantedTreatment → Expectation
leaving count by = expected 257 (with_count count) (Gem 1024) by

abbrev adding : WantedTag → WantedTreatment
adding wanted = treatment.Retag (record { remove = 0; outer = None; inner = Some wanted })

-- with priority 0 and TPID 0x8100
abbrev plain : WantedTag
plain = record { added = added (from_priority.Fixed 0) from_tpid.Standard; tpid = None; fits = refl; tpid_fits = refl }

-- with the output TPID
abbrev by_output : WantedTag
by_output = record { added = added (from_priority.Fixed 0) from_tpid.Output; tpid = None; fits = refl; tpid_fits = refl }

-- with a TPID that is named
abbrev named : (tpid : ℕ) → IsTrue (nat_lt tpid (2 ^ 16)) → WantedTag
named tpid low = record { added = added (from_priority.Fixed 0) from_tpid.Inner; tpid = Some tpid; fits = refl; tpid_fits = low }

-- with the priority of the DSCP
abbrev by_dscp : WantedTag
by_dscp = record { added = added from_priority.Dscp from_tpid.Standard; tpid = None; fits = refl; tpid_fits = refl }

-- with priority 5
abbrev prior : WantedTag
prior = record { added = added (from_priority.Fixed 5) from_tpid.Standard; tpid = None; fits = refl; tpid_fits = refl }

-- one tag goes, and a copy of it comes
abbrev copying : WantedTreatment
copying =
    treatment.Retag (record {
      remove = 1;
      outer = None;
      inner =
          Some (record {
            added = record { priority = from_priority.Inner; vid = from_vid.Inner; tpid = from_tpid.Inner; eligible = from_eligible.Inner };
            tpid = None;
            fits = refl;
            tpid_fits = refl;
          });
    })

-- ---- any frame leaves

-- each that can be read is spoken of, and leaves; a cut one isn't spoken of
pub widely : (admits set_up (expected 257 any_frame Leave treatment.Any) (frame [] (packet 0)) ≡ true)
    × (meets set_up (expected 257 any_frame Leave treatment.Any) (frame [] (packet 0)) ≡ true)
    × (admits set_up (expected 257 any_frame Leave treatment.Any) (frame tag (packet 0)) ≡ true)
    × (meets set_up (expected 257 any_frame Leave treatment.Any) (frame tag (packet 0)) ≡ true)
    × (meets set_up (expected 257 any_frame Leave treatment.Any) (frame (service_tag ++ tag) (packet 0)) ≡ true)
    × (admits set_up (expected 257 any_frame Leave treatment.Any) addresses ≡ false)
    × (admits set_up (expected 257 any_frame Leave treatment.Any) (addresses ++ tag) ≡ false)
unfolding admits meets meaning forwarded_by table_at input_tpid_of tags_at tags_by entry_for mapper_at gem_port_at gem_port_of gem_port_behind port_id_of carries_upstream pointer_of priority_of frame_of fault_of dscp_of group_of choice matches filter_of ethertype_of rank_of treatment_of kind_of key_of value_of number_of treated treated_by
widely = (refl, refl, refl, refl, refl, refl, refl)

-- of another port none leaves, since it has no mapper
pub second_ports : (admits set_up (expected 258 any_frame Leave treatment.Any) (frame [] (packet 0)) ≡ true)
    × (meets set_up (expected 258 any_frame Leave treatment.Any) (frame [] (packet 0)) ≡ false)
    × (meets set_up (expected 258 any_frame (DroppedFor NoMapper) treatment.Any) (frame [] (packet 0)) ≡ true)
unfolding admits meets meaning forwarded_by table_at input_tpid_of tags_at tags_by entry_for mapper_at gem_port_at gem_port_of gem_port_behind port_id_of carries_upstream pointer_of priority_of frame_of fault_of dscp_of group_of choice matches filter_of ethertype_of rank_of treatment_of kind_of key_of value_of number_of treated treated_by
second_ports = (refl, refl, refl)

-- ---- with which tags

-- frames without a tag get one, by whatever says the same tag
pub tagged_so : (meets set_up (leaving 0 (adding plain)) (frame [] (packet 0)) ≡ true)
    × (meets set_up (leaving 0 (adding by_output)) (frame [] (packet 0)) ≡ true)
    × (meets set_up (leaving 0 (adding (named 0x8100 refl))) (frame [] (packet 0)) ≡ true)
    × (meets set_up (leaving 0 (adding (named 0x88a8 refl))) (frame [] (packet 0)) ≡ false)
    × (meets set_up (leaving 0 (adding by_dscp)) (frame [] (packet 0xb8)) ≡ true)
    × (meets set_up (leaving 0 (adding prior)) (frame [] (packet 0xb8)) ≡ false)
unfolding admits meets meaning forwarded_by table_at input_tpid_of tags_at tags_by entry_for mapper_at gem_port_at gem_port_of gem_port_behind port_id_of carries_upstream pointer_of priority_of frame_of fault_of dscp_of group_of choice matches filter_of ethertype_of rank_of treatment_of kind_of key_of value_of number_of treated treated_by
tagged_so = (refl, refl, refl, refl, refl, refl)

-- the table's settings count: its output TPID, and its priorities of DSCPs
pub wanted_so : (meets marked (leaving 0 (adding by_dscp)) (frame [] (packet 0xb8)) ≡ true)
    × (meets marked (leaving 0 (adding prior)) (frame [] (packet 0xb8)) ≡ true)
    × (meets marked (leaving 0 (adding prior)) (frame [] (packet 0)) ≡ false)
    × (meets marked (leaving 0 (adding plain)) (frame [] (packet 0)) ≡ true)
    × (meets marked (leaving 0 (adding by_output)) (frame [] (packet 0)) ≡ false)
unfolding admits meets meaning forwarded_by table_at input_tpid_of tags_at tags_by entry_for mapper_at gem_port_at gem_port_of gem_port_behind port_id_of carries_upstream pointer_of priority_of frame_of fault_of dscp_of group_of choice matches filter_of ethertype_of rank_of treatment_of kind_of key_of value_of number_of treated treated_by
wanted_so = (refl, refl, refl, refl, refl)

-- so they aren't unchanged
pub failing : (admits set_up (leaving 0 treatment.Unchanged) (frame [] (packet 0)) ≡ true)
    × (meets set_up (leaving 0 treatment.Unchanged) (frame [] (packet 0)) ≡ false)
    × (admits set_up (leaving 0 treatment.Unchanged) (frame tag (packet 0)) ≡ false)
unfolding admits meets meaning forwarded_by table_at input_tpid_of tags_at tags_by entry_for mapper_at gem_port_at gem_port_of gem_port_behind port_id_of carries_upstream pointer_of priority_of frame_of fault_of dscp_of group_of choice matches filter_of ethertype_of rank_of treatment_of kind_of key_of value_of number_of treated treated_by
failing = (refl, refl, refl)

-- those with tags are, also where a tag is taken off and put on again
pub kept : (meets set_up (leaving 2 treatment.Unchanged) (frame (service_tag ++ tag) (packet 0)) ≡ true)
    × (meets set_up (leaving 1 treatment.Unchanged) (frame tag (packet 0)) ≡ true)
    × (meets set_up (leaving 1 copying) (frame tag (packet 0)) ≡ true)
    × (meets set_up (leaving 2 copying) (frame (tag ++ tag) (packet 0)) ≡ true)
    × (meets set_up (leaving 2 copying) (frame (service_tag ++ tag) (packet 0)) ≡ false)
unfolding admits meets meaning forwarded_by table_at input_tpid_of tags_at tags_by entry_for mapper_at gem_port_at gem_port_of gem_port_behind port_id_of carries_upstream pointer_of priority_of frame_of fault_of dscp_of group_of choice matches filter_of ethertype_of rank_of treatment_of kind_of key_of value_of number_of treated treated_by
kept = (refl, refl, refl, refl, refl)

-- ---- how they end

-- through another GEM port
pub through : (meets set_up (expected 257 any_frame (Gem 1025) treatment.Any) (frame tag (packet 0)) ≡ false)
    × (meets set_up (expected 257 any_frame Dropped treatment.Any) (frame tag (packet 0)) ≡ false)
unfolding admits meets meaning forwarded_by table_at input_tpid_of tags_at tags_by entry_for mapper_at gem_port_at gem_port_of gem_port_behind port_id_of carries_upstream pointer_of priority_of frame_of fault_of dscp_of group_of choice matches filter_of ethertype_of rank_of treatment_of kind_of key_of value_of number_of treated treated_by
through = (refl, refl)

-- dropped, for a reason; so it doesn't leave unchanged
pub dropped : (meets without_tagged (expected 257 any_frame Dropped treatment.Any) (frame tag (packet 0)) ≡ true)
    × (meets without_tagged (expected 257 any_frame (DroppedFor RuleDiscard) treatment.Any) (frame tag (packet 0)) ≡ true)
    × (meets without_tagged (expected 257 any_frame (DroppedFor NoMapper) treatment.Any) (frame tag (packet 0)) ≡ false)
    × (meets without_tagged (expected 257 any_frame Leave treatment.Any) (frame tag (packet 0)) ≡ false)
    × (meets without_tagged (expected 257 any_frame Any treatment.Any) (frame tag (packet 0)) ≡ true)
    × (meets without_tagged (expected 257 any_frame Any treatment.Unchanged) (frame tag (packet 0)) ≡ false)
    × (meets without_tagged (expected 257 any_frame Any copying) (frame tag (packet 0)) ≡ false)
unfolding admits meets meaning forwarded_by table_at input_tpid_of tags_at tags_by entry_for mapper_at gem_port_at gem_port_of gem_port_behind port_id_of carries_upstream pointer_of priority_of frame_of fault_of dscp_of group_of choice matches filter_of ethertype_of rank_of treatment_of kind_of key_of value_of number_of treated treated_by
dropped = (refl, refl, refl, refl, refl, refl, refl)

-- ---- of which frames

-- a tag with any TPID that is read; of the two tags of a frame, the one that is asked for
pub admitted : (admits set_up (speaks_of (with_count 1)) (frame tag (packet 0)) ≡ true)
    × (admits set_up (speaks_of (with_count 1)) (frame service_tag (packet 0)) ≡ true)
    × (admits set_up (speaks_of (of_inner (record any_tag { tpid = Some 0x88a8 }))) (frame service_tag (packet 0)) ≡ true)
    × (admits set_up (speaks_of (of_inner (record any_tag { tpid = Some 0x8100 }))) (frame service_tag (packet 0)) ≡ false)
    × (admits set_up (speaks_of (of_inner (record any_tag { vid = vid.Exactly 100 }))) (frame tag (packet 0)) ≡ true)
    × (admits set_up (speaks_of (of_outer (record any_tag { vid = vid.Exactly 100 }))) (frame tag (packet 0)) ≡ false)
    × (admits set_up (speaks_of (of_outer (record any_tag { vid = vid.Exactly 100 }))) (frame (tag ++ service_tag) (packet 0)) ≡ true)
    × (admits set_up (speaks_of (of_inner (record any_tag { vid = vid.Exactly 100 }))) (frame (tag ++ service_tag) (packet 0)) ≡ false)
    × (admits set_up (speaks_of (of_inner (record any_tag { vid = vid.Exactly 100 }))) (frame [] (packet 0)) ≡ false)
unfolding admits meets meaning forwarded_by table_at input_tpid_of tags_at tags_by entry_for mapper_at gem_port_at gem_port_of gem_port_behind port_id_of carries_upstream pointer_of priority_of frame_of fault_of dscp_of group_of choice matches filter_of ethertype_of rank_of treatment_of kind_of key_of value_of number_of treated treated_by
admitted = (refl, refl, refl, refl, refl, refl, refl, refl, refl)

-- the last VID, the priority, and the drop eligible indicator
pub conditions : (admits set_up (speaks_of (of_inner (record any_tag { vid = vid.Exactly 4095 }))) (frame service_tag (packet 0)) ≡ true)
    × (admits set_up (speaks_of (of_inner (record any_tag { priority = priority.Exactly 1 }))) (frame service_tag (packet 0)) ≡ true)
    × (admits set_up (speaks_of (of_inner (record any_tag { eligible = Some true }))) (frame service_tag (packet 0)) ≡ true)
    × (admits set_up (speaks_of (of_inner (record any_tag { eligible = Some false }))) (frame service_tag (packet 0)) ≡ false)
    × (admits set_up (speaks_of (of_inner (record any_tag { eligible = Some false }))) (frame tag (packet 0)) ≡ true)
    × (admits set_up (speaks_of (of_inner (record any_tag { eligible = Some false }))) (frame [] (packet 0)) ≡ false)
unfolding admits meets meaning forwarded_by table_at input_tpid_of tags_at tags_by entry_for mapper_at gem_port_at gem_port_of gem_port_behind port_id_of carries_upstream pointer_of priority_of frame_of fault_of dscp_of group_of choice matches filter_of ethertype_of rank_of treatment_of kind_of key_of value_of number_of treated treated_by
conditions = (refl, refl, refl, refl, refl, refl)

-- a TPID that the port doesn't read as a tag is a type
pub unread : (admits set_up (speaks_of (of_inner (record any_tag { tpid = Some 0x9100 }))) (frame (0x91 ∷ 0x00 ∷ 0 ∷ 1 ∷ []) (packet 0)) ≡ false)
    × (admits set_up (speaks_of (record (with_count 0) { ethertype = type.Exactly 0x9100 })) (frame (0x91 ∷ 0x00 ∷ 0 ∷ 1 ∷ []) (packet 0)) ≡ true)
unfolding admits meets meaning forwarded_by table_at input_tpid_of tags_at tags_by entry_for mapper_at gem_port_at gem_port_of gem_port_behind port_id_of carries_upstream pointer_of priority_of frame_of fault_of dscp_of group_of choice matches filter_of ethertype_of rank_of treatment_of kind_of key_of value_of number_of treated treated_by
unread = (refl, refl)

-- a type by its class or its number, behind two tags as it stands; and a DSCP, whose bytes may be missing
pub numbered : (admits set_up (speaks_of (record any_frame { ethertype = type.Class ethertype.Pppoe })) (frame tag (0x88 ∷ 0x64 ∷ [])) ≡ true)
    × (admits set_up (speaks_of (record any_frame { ethertype = type.Exactly 0x8863 })) (frame tag (0x88 ∷ 0x64 ∷ [])) ≡ false)
    × (admits set_up (speaks_of (record any_frame { ethertype = type.Exactly 0x8100 })) (frame (tag ++ tag) (tag ++ packet 0)) ≡ true)
    × (admits set_up (speaks_of (record any_frame { ethertype = type.Class ethertype.Ipv4 })) (frame (tag ++ tag) (tag ++ packet 0)) ≡ false)
    × (admits set_up (speaks_of (record any_frame { dscp = Some 46 })) (frame tag (packet 0xb8)) ≡ true)
    × (admits set_up (speaks_of (record any_frame { dscp = Some 46 })) (frame [] (0x86 ∷ 0xdd ∷ 0x6b ∷ 0x80 ∷ [])) ≡ true)
    × (admits set_up (speaks_of (record any_frame { dscp = Some 0 })) (frame [] (0x08 ∷ 0x00 ∷ 0x45 ∷ [])) ≡ false)
    × (admits set_up (speaks_of (record any_frame { dscp = Some 0 })) (frame [] (0x08 ∷ 0x06 ∷ 0 ∷ 0 ∷ [])) ≡ false)
    × (admits set_up (speaks_of any_frame) (frame [] (0x08 ∷ 0x00 ∷ 0x45 ∷ [])) ≡ true)
unfolding admits meets meaning forwarded_by table_at input_tpid_of tags_at tags_by entry_for mapper_at gem_port_at gem_port_of gem_port_behind port_id_of carries_upstream pointer_of priority_of frame_of fault_of dscp_of group_of choice matches filter_of ethertype_of rank_of treatment_of kind_of key_of value_of number_of treated treated_by
numbered = (refl, refl, refl, refl, refl, refl, refl, refl, refl)
