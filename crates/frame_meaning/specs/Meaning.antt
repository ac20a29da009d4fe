-- What the managed entities mean for a frame that comes in at a port: the GEM port and the tags that it leaves with, or
-- the first reason to drop it (ITU-T G.988, clauses 9.3.13, 9.3.10, 9.2.4 and 9.2.3). Attributes are numbered from 1, as there.
use Rattle.std.specs.Prelude.{ℕ, Bool, ◌||◌, ◌==◌, if◌then◌else◌, List, [], ◌∷◌, map, Option, Some, None, Result, Ok, Err, ok_or}
use Rattle.std.specs.Option.{option_and_then, option_map}
use Rattle.std.specs.Result.{result_map_both}
use Rattle.tag_view.specs.Tag.{TagFields, customer_tpid}
use Rattle.tag_view.specs.Frame.{Reading, frame_of, type_at}
use Rattle.tag_view.specs.Dscp.{dscp_of}
use Rattle.vlan_rule.specs.declared.settings.TableSettings.{TableSettings}
use Rattle.vlan_rule.specs.Choice.{choice, entry_at, matches}
use Rattle.treatment.specs.Treatment.{treated}
use Rattle.pmapper.specs.Mapper.{Unmarked, pointer_of, priority_of}
use Rattle.mib_state.specs.Entities.{Entities, find}
use Rattle.managed_entity.specs.Instance.{Instance, attribute_bytes, attribute_number}
use Rattle.mib_state.specs.Attached.{mapper_of_port, table_of_port}
use Rattle.frame_meaning.specs.declared.reason.Reason.{Reason}
use Rattle.frame_meaning.specs.declared.reason.Reason.TheVariants.{NoRule, RuleDiscard, NoMapper, NullPointer, NoInterwork, NoGem, Direction}
use Rattle.frame_meaning.specs.declared.verdict.Verdict.{Verdict}
use Rattle.frame_meaning.specs.declared.verdict.Verdict.TheVariants.{Forward, Drop}
use Rattle.frame_meaning.specs.Reason.{reason_of_fault}

-- what comes next, with what was found; the first reason stands
abbrev pub found_then : {A B : Type 0} → Result A Reason → (A → Result B Reason) → Result B Reason
found_then (Ok found) next = next found
found_then (Err reason) next = Err reason

-- ---- the table of a port (clause 9.3.13)

-- a table's entries, and what its rules are applied with
pub record Table : Type 0 where
  pub settings : TableSettings
  pub entries : List (List ℕ)

-- the table of an extended VLAN tagging operation configuration data: its entries, and its input TPID, output TPID and DSCP
-- to P-bit mapping, attributes 3, 4 and 8
abbrev pub table_of : Instance → Table
table_of vlan =
    record {
      settings = record {
        input_tpid = attribute_number 3 vlan;
        output_tpid = attribute_number 4 vlan;
        dscp_map = record { 0 = attribute_bytes 8 vlan };
      };
      entries = vlan.entries;
    }

-- the table of a port, if it has one
unfoldable pub table_at : Entities → ℕ → Option Table
table_at e port = option_map table_of (option_and_then (λ n. find n e.vlans) (table_of_port e port))

-- the type that begins a tag, beside the two of IEEE 802.1Q: the table's input TPID, or a customer's without a table
unfoldable pub input_tpid_of : Option Table → ℕ
input_tpid_of None = customer_tpid
input_tpid_of (Some table) = table.settings.input_tpid

-- the entry of a table that is used for a frame
unfoldable pub entry_for : Table → Reading → Option (List ℕ)
entry_for table frame =
    option_map (entry_at table.entries) (choice (matches table.settings.input_tpid frame.tags (type_at 0 frame.rest)) table.entries)

-- the tags that a frame leaves with by a table
unfoldable pub tags_by : Table → Reading → Result (List TagFields) Reason
tags_by table frame =
    found_then (ok_or (entry_for table frame) NoRule) (λ entry.
    ok_or (treated entry table.settings frame.tags (dscp_of frame.rest)) RuleDiscard)

-- the tags that a frame leaves with: its own without a table
unfoldable pub tags_at : Option Table → Reading → Result (List TagFields) Reason
tags_at None frame = Ok frame.tags
tags_at (Some table) frame = tags_by table frame

-- ---- the mapper (clause 9.3.10)

-- the mapper of a port
unfoldable pub mapper_at : Entities → ℕ → Option Instance
mapper_at e port = option_and_then (λ n. find n e.mappers) (mapper_of_port e port)

-- what a mapper says of frames without a tag: the unmarked frame option, the DSCP to P-bit mapping and the default P-bit
-- assumption, attributes 10, 11 and 12
abbrev pub unmarked_at : Instance → Unmarked
unmarked_at mapper =
    record {
      option = attribute_number 10 mapper;
      dscp_map = attribute_bytes 11 mapper;
      default_p_bit = attribute_number 12 mapper;
    }

-- the interwork TP pointers of a mapper, attribute 2 for priority 0 up to attribute 9 for 7
abbrev pub pointers_at : Instance → List ℕ
pointers_at mapper = map (λ n. attribute_number n mapper) (2 ∷ 3 ∷ 4 ∷ 5 ∷ 6 ∷ 7 ∷ 8 ∷ 9 ∷ [])

-- ---- the GEM port (clauses 9.2.3 and 9.2.4)

-- whether a GEM port network CTP carries frames upstream: its direction, attribute 3, is 1, upstream, or 3, both
unfoldable pub carries_upstream : Instance → Bool
carries_upstream gem = attribute_number 3 gem == 1 || attribute_number 3 gem == 3

-- the GEM port of frames that a GEM port network CTP carries: its port-ID, attribute 1
unfoldable pub port_id_of : Instance → Result ℕ Reason
port_id_of gem = if carries_upstream gem then Ok (attribute_number 1 gem) else Err Direction

-- the GEM port of frames that come to a GEM interworking termination point: that of the CTP of its pointer, attribute 1
unfoldable pub gem_port_behind : Entities → Instance → Result ℕ Reason
gem_port_behind e point = found_then (ok_or (find (attribute_number 1 point) e.gem_ports) NoGem) port_id_of

-- the GEM port of the frames of a priority that come to a mapper
unfoldable pub gem_port_of : Entities → Instance → ℕ → Result ℕ Reason
gem_port_of e mapper priority =
    found_then (ok_or (pointer_of (pointers_at mapper) priority) NullPointer) (λ pointer.
    found_then (ok_or (find pointer e.interworks) NoInterwork) (gem_port_behind e))

-- the GEM port of frames with a DSCP, if they have one, that leave a port with these tags
unfoldable pub gem_port_at : Entities → ℕ → List TagFields → Option ℕ → Result ℕ Reason
gem_port_at e port tags dscp =
    found_then (ok_or (mapper_at e port) NoMapper) (λ mapper.
    gem_port_of e mapper (priority_of (unmarked_at mapper) tags dscp))

-- ---- the frame

-- a frame as a port with this table reads it
abbrev pub read_at : Option Table → List ℕ → Result Reading Reason
read_at table bytes = result_map_both (λ frame. frame) reason_of_fault (frame_of (input_tpid_of table) bytes)

-- the GEM port by which a frame that comes in at a port leaves, and the frame that leaves, or the first reason to drop it
unfoldable pub forwarded_by : Entities → ℕ → List ℕ → Result (ℕ × Reading) Reason
forwarded_by e port bytes =
    found_then (read_at (table_at e port) bytes) (λ frame.
    found_then (tags_at (table_at e port) frame) (λ tags.
    found_then (gem_port_at e port tags (dscp_of frame.rest)) (λ gem.
    Ok (gem, record frame { tags = tags }))))

abbrev pub verdict_of : Result (ℕ × Reading) Reason → Verdict
verdict_of (Ok (gem, frame)) = Forward gem frame
verdict_of (Err reason) = Drop reason

-- what becomes of a frame that comes in at a port
unfoldable pub meaning : Entities → ℕ → List ℕ → Verdict
meaning e port bytes = verdict_of (forwarded_by e port bytes)
