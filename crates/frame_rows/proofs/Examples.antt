-- Worked examples, computed.
use Rattle.std.proofs.Common.{◌≡◌, ◌<◌, ℕ, true, false, List, [], ◌∷◌, ◌++◌, arith, refl}
use Rattle.std.specs.Prelude.{replicate}
use Rattle.tag_view.specs.Frame.{fault_of, frame_of}
use Rattle.tag_view.specs.Dscp.{dscp_of}
use Rattle.vlan_rule.specs.Entry.{key_of, kind_of, number_of, value_of}
use Rattle.vlan_rule.specs.Meaning.{ethertype_of, filter_of, rank_of, treatment_of}
use Rattle.vlan_rule.specs.Table.{predefined}
use Rattle.vlan_rule.specs.Choice.{choice, matches}
use Rattle.treatment.specs.Treatment.{treated, treated_by}
use Rattle.pmapper.specs.Mapper.{pointer_of, priority_of}
use Rattle.managed_entity.specs.Instance.{Instance}
use Rattle.mib_state.specs.Entities.{Entities, nothing}
use Rattle.frame_meaning.specs.declared.reason.Reason.TheVariants.{Runt, CutTag, NoRule, RuleDiscard, NoMapper, NoInterwork, Direction}
use Rattle.frame_meaning.specs.Meaning.{carries_upstream, entry_for, forwarded_by, gem_port_at, gem_port_behind, gem_port_of, input_tpid_of, mapper_at, meaning, port_id_of, table_at, tags_at, tags_by}
use Rattle.explain.specs.Order.{tried_order}
use Rattle.frame_rows.specs.declared.class.Use.{Use}
use Rattle.frame_rows.specs.declared.class.Use.TheVariants.{Unread, NoTable, Entry, NoEntry}
use Rattle.frame_rows.specs.declared.class.Ending.{Ending}
use Rattle.frame_rows.specs.declared.class.Ending.TheVariants.{Gem, Dropped}
use Rattle.frame_rows.specs.declared.class.FrameClass.{FrameClass}
use Rattle.frame_rows.specs.Use.{use_of}
use Rattle.frame_rows.specs.Class.{class_number, class_of}
use Rattle.frame_rows.specs.Field.{values_of}
use Rattle.frame_rows.specs.Sight.{Leaves, Lost, seen_apart, side_of, sight_of}

-- ---- the entities

-- GEM port network CTP 0x0401 of port-ID 1024, both ways
abbrev pub gem_port : Instance
gem_port = record { number = 0x0401; values = (0x04 ∷ 0x00 ∷ []) ∷ (0x80 ∷ 0x01 ∷ []) ∷ (3 ∷ []) ∷ []; entries = [] }

-- GEM interworking termination point 0x0501 to it
abbrev pub point : Instance
point = record { number = 0x0501; values = (0x04 ∷ 0x01 ∷ []) ∷ []; entries = [] }

-- the pointer to that point
abbrev pub to_point : List ℕ
to_point = 0x05 ∷ 0x01 ∷ []

-- mapper 0x0601 of port 257, with this pointer for priority 5; the other pointers are to the point
abbrev pub mapper : List ℕ → Instance
mapper fifth =
    record {
      number = 0x0601;
      values =
          (1 ∷ 1 ∷ []) ∷ to_point ∷ to_point ∷ to_point ∷ to_point ∷ to_point ∷ fifth ∷ to_point ∷ to_point ∷ (1 ∷ [])
          ∷ replicate 24 0 ∷ (0 ∷ []) ∷ (1 ∷ []) ∷ [];
      entries = [];
    }

-- table 0x0701 of port 257, with these entries
abbrev pub table : List (List ℕ) → Instance
table entries =
    record {
      number = 0x0701;
      values =
          (2 ∷ []) ∷ (0 ∷ 128 ∷ []) ∷ (0x81 ∷ 0x00 ∷ []) ∷ (0x81 ∷ 0x00 ∷ []) ∷ (0 ∷ []) ∷ [] ∷ (1 ∷ 1 ∷ []) ∷ replicate 24 0 ∷ [];
      entries = entries;
    }

-- port 257 leads to port-ID 1024, and its table keeps tags
abbrev pub set_up : Entities
set_up = record { sync = 4; mappers = mapper to_point ∷ []; vlans = table predefined ∷ []; interworks = point ∷ []; gem_ports = gem_port ∷ [] }

-- frames without a tag get one of VLAN 100
abbrev pub tagging : List ℕ
tagging = 0xf8 ∷ 0 ∷ 0 ∷ 0 ∷ 0xf8 ∷ 0 ∷ 0 ∷ 0 ∷ 0 ∷ 0x0f ∷ 0 ∷ 0 ∷ 0 ∷ 0 ∷ 0x03 ∷ 0x24 ∷ []

-- and so they do at port 257
abbrev pub with_entry : Entities
with_entry = record set_up { vlans = table (predefined ++ tagging ∷ []) ∷ [] }

-- and the pointer for priority 5 leads nowhere
abbrev pub without_point : Entities
without_point = record with_entry { mappers = mapper (0x05 ∷ 0x99 ∷ []) ∷ [] }

-- ---- the frames

abbrev pub addresses : List ℕ
addresses = 2 ∷ 0 ∷ 0 ∷ 0 ∷ 0 ∷ 1 ∷ 2 ∷ 0 ∷ 0 ∷ 0 ∷ 0 ∷ 2 ∷ []

abbrev pub untagged : List ℕ
untagged = addresses ++ (0x08 ∷ 0x00 ∷ 0x45 ∷ 0x00 ∷ [])

-- a tag of VLAN 1 with priority 0
abbrev pub tag : List ℕ
tag = 0x81 ∷ 0x00 ∷ 0x00 ∷ 0x01 ∷ []

-- and with priority 5
abbrev pub prior_tag : List ℕ
prior_tag = 0x81 ∷ 0x00 ∷ 0xa0 ∷ 0x01 ∷ []

abbrev pub tagged : List ℕ → List ℕ
tagged tags = addresses ++ (tags ++ (0x08 ∷ 0x00 ∷ []))

-- ---- the classes

abbrev pub of : Use → Ending → FrameClass
of used ending = record { used = used; ending = ending }

-- without entities
pub empty : (class_of nothing 257 addresses ≡ of Unread (Dropped Runt))
    × (class_of nothing 257 (addresses ++ tag) ≡ of Unread (Dropped CutTag))
    × (class_of nothing 257 untagged ≡ of NoTable (Dropped NoMapper))
unfolding class_of use_of meaning forwarded_by table_at input_tpid_of tags_at mapper_at gem_port_at frame_of fault_of
empty = (refl, refl, refl)

-- with a table of the predefined entries
pub kept : (class_of set_up 257 addresses ≡ of Unread (Dropped Runt))
    × (class_of set_up 257 (addresses ++ tag) ≡ of Unread (Dropped CutTag))
    × (class_of set_up 257 untagged ≡ of (Entry 0) (Gem 1024))
    × (class_of set_up 257 (tagged tag) ≡ of (Entry 1) (Gem 1024))
    × (class_of set_up 257 (tagged (tag ++ prior_tag)) ≡ of (Entry 2) (Gem 1024))
    × (class_of set_up 258 untagged ≡ of NoTable (Dropped NoMapper))
unfolding class_of use_of meaning forwarded_by table_at input_tpid_of tags_at tags_by entry_for mapper_at gem_port_at gem_port_of gem_port_behind port_id_of carries_upstream pointer_of priority_of frame_of fault_of dscp_of choice matches filter_of ethertype_of rank_of treatment_of kind_of key_of value_of number_of treated treated_by tried_order
kept = (refl, refl, refl, refl, refl, refl)

-- with an entry for frames without a tag: it is tried first, and the predefined one for them, number 1, isn't used
pub added : (class_of with_entry 257 untagged ≡ of (Entry 0) (Gem 1024))
    × (class_of with_entry 257 (tagged tag) ≡ of (Entry 2) (Gem 1024))
    × (class_of with_entry 257 (tagged (tag ++ prior_tag)) ≡ of (Entry 3) (Gem 1024))
unfolding class_of use_of meaning forwarded_by table_at input_tpid_of tags_at tags_by entry_for mapper_at gem_port_at gem_port_of gem_port_behind port_id_of carries_upstream pointer_of priority_of frame_of fault_of dscp_of choice matches filter_of ethertype_of rank_of treatment_of kind_of key_of value_of number_of treated treated_by tried_order
added = (refl, refl, refl)

-- of frames that keep their tags those of priority 5 are dropped
pub dropped : (class_of without_point 257 untagged ≡ of (Entry 0) (Gem 1024))
    × (class_of without_point 257 (tagged tag) ≡ of (Entry 2) (Gem 1024))
    × (class_of without_point 257 (tagged prior_tag) ≡ of (Entry 2) (Dropped NoInterwork))
    × (class_of without_point 257 (tagged (tag ++ prior_tag)) ≡ of (Entry 3) (Gem 1024))
    × (class_of without_point 257 (tagged (prior_tag ++ tag)) ≡ of (Entry 3) (Dropped NoInterwork))
unfolding class_of use_of meaning forwarded_by table_at input_tpid_of tags_at tags_by entry_for mapper_at gem_port_at gem_port_of gem_port_behind port_id_of carries_upstream pointer_of priority_of frame_of fault_of dscp_of choice matches filter_of ethertype_of rank_of treatment_of kind_of key_of value_of number_of treated treated_by tried_order
dropped = (refl, refl, refl, refl, refl)

-- without any entry
pub unmatched : class_of (record set_up { vlans = table [] ∷ [] }) 257 untagged ≡ of NoEntry (Dropped NoRule)
unfolding class_of use_of meaning forwarded_by table_at input_tpid_of tags_at tags_by entry_for mapper_at gem_port_at gem_port_of gem_port_behind port_id_of carries_upstream pointer_of priority_of frame_of fault_of dscp_of choice matches filter_of ethertype_of rank_of treatment_of kind_of key_of value_of number_of treated treated_by tried_order
unmatched = refl

-- ---- their order

-- by the use, and within a use by the ending
pub ordered : (class_number (of Unread (Dropped CutTag)) < class_number (of NoTable (Gem 0)))
    × (class_number (of NoTable (Dropped NoMapper)) < class_number (of (Entry 0) (Gem 0)))
    × (class_number (of (Entry 0) (Gem 0xffff)) < class_number (of (Entry 0) (Dropped RuleDiscard)))
    × (class_number (of (Entry 0) (Dropped RuleDiscard)) < class_number (of (Entry 0) (Dropped NoMapper)))
    × (class_number (of (Entry 0) (Dropped Direction)) < class_number (of (Entry 1) (Gem 0)))
    × (class_number (of (Entry 127) (Dropped Direction)) < class_number (of NoEntry (Dropped NoRule)))
ordered = (omega arith, omega arith, omega arith, omega arith, omega arith, omega arith)

-- ---- what is seen

-- frames without a tag get one, and others leave as they came
pub seen : (sight_of nothing 257 untagged ≡ Lost NoMapper)
    × (sight_of set_up 257 untagged ≡ Leaves 1024 untagged)
    × (sight_of with_entry 257 untagged ≡ Leaves 1024 (addresses ++ (0x81 ∷ 0x00 ∷ 0x00 ∷ 0x64 ∷ 0x08 ∷ 0x00 ∷ 0x45 ∷ 0x00 ∷ [])))
    × (sight_of with_entry 257 (tagged prior_tag) ≡ Leaves 1024 (tagged prior_tag))
    × (sight_of without_point 257 (tagged prior_tag) ≡ Lost NoInterwork)
unfolding sight_of meaning forwarded_by table_at input_tpid_of tags_at tags_by entry_for mapper_at gem_port_at gem_port_of gem_port_behind port_id_of carries_upstream pointer_of priority_of frame_of fault_of dscp_of choice matches filter_of ethertype_of rank_of treatment_of kind_of key_of value_of number_of treated treated_by tried_order
seen = (refl, refl, refl, refl, refl)

-- so the entry makes a difference for frames without a tag, and the pointer for those of priority 5
pub told_apart : (seen_apart true (side_of set_up 257) (side_of with_entry 257) (values_of untagged) ≡ true)
    × (seen_apart true (side_of set_up 257) (side_of with_entry 257) (values_of (tagged tag)) ≡ false)
    × (seen_apart true (side_of with_entry 257) (side_of without_point 257) (values_of (tagged tag)) ≡ false)
    × (seen_apart true (side_of with_entry 257) (side_of without_point 257) (values_of (tagged prior_tag)) ≡ true)
unfolding values_of table_at input_tpid_of tags_at tags_by entry_for mapper_at gem_port_at gem_port_of gem_port_behind port_id_of carries_upstream pointer_of priority_of frame_of fault_of dscp_of choice matches filter_of ethertype_of rank_of treatment_of kind_of key_of value_of number_of treated treated_by tried_order
told_apart = (refl, refl, refl, refl)
