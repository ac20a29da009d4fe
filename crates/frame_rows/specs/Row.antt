-- Rows: what is asked of the fields of a frame, and the class of the frames for which it is the first that asks nothing else.
use Rattle.std.specs.Prelude.{ℕ, ◌+◌, ◌*◌, Bool, List, [], ◌∷◌, Option, Some, None, if◌then◌else◌, ◌==◌, find, nat_le, slice_index_or}
use Rattle.std.specs.List.{list_all}
use Rattle.std.specs.Option.{option_map}
use Rattle.vlan_rule.specs.declared.filter.EthertypeFilter.{EthertypeFilter}
use Rattle.vlan_rule.specs.declared.filter.Filter.{Filter}
use Rattle.vlan_rule.specs.declared.filter.Filter.TheVariants as filter
use Rattle.vlan_rule.specs.declared.filter.PriorityFilter.TheVariants as priority
use Rattle.vlan_rule.specs.declared.filter.VidFilter.TheVariants as vid
use Rattle.vlan_rule.specs.declared.filter.TpidFilter.TheVariants as tpid
use Rattle.vlan_rule.specs.declared.filter.TagFilter.{TagFilter}
use Rattle.vlan_rule.specs.declared.treatment.Retag.{Retag}
use Rattle.frame_meaning.specs.declared.reason.Reason.TheVariants.{Runt, CutTag, NoMapper}
use Rattle.frame_rows.specs.declared.class.Use.TheVariants.{Unread}
use Rattle.frame_rows.specs.declared.class.Ending.{Ending}
use Rattle.frame_rows.specs.declared.class.Ending.TheVariants.{Dropped}
use Rattle.frame_rows.specs.declared.class.FrameClass.{FrameClass}
use Rattle.frame_rows.specs.declared.ask.Ask.{Ask}
use Rattle.frame_rows.specs.declared.ask.Ask.TheVariants.{Any, Exactly, Between, TagType, NoTagType, Ethertype}
use Rattle.frame_rows.specs.declared.field.Field.{Field}
use Rattle.frame_rows.specs.declared.field.Values.{Values}
use Rattle.frame_rows.specs.declared.source.Packet.{Packet}
use Rattle.frame_rows.specs.declared.source.Packet.TheVariants.{Ipv4, Ipv6, Other}
use Rattle.frame_rows.specs.declared.source.DscpSource.{DscpSource}
use Rattle.frame_rows.specs.declared.source.Source.{Source}
use Rattle.frame_rows.specs.declared.source.Source.TheVariants.{Fixed, FirstTag, SecondTag, Dscp}
use Rattle.frame_rows.specs.declared.row.Ends.{Ends}
use Rattle.frame_rows.specs.declared.row.Ends.TheVariants as ends
use Rattle.frame_rows.specs.declared.row.Row.{Row}
use Rattle.frame_rows.specs.Field.{counted_length, fields, place_of, type_behind, value_at, vid_behind, with_value}
use Rattle.frame_rows.specs.Ask.{admits, eligible_ask, priority_ask, vid_ask}
use Rattle.frame_rows.specs.Source.{dscp_behind, mapped, packet_of, priority_by}

-- ---- what a row asks

abbrev pub ask_at : Row → Field → Ask
ask_at row field = slice_index_or row.asks (place_of field) Any

-- the value of a field is as a row asks
abbrev pub row_admits : Row → Field → ℕ → Bool
row_admits row field value = admits (ask_at row field) value

-- the values of some fields are as a row asks
abbrev pub passes : List Field → Row → Values → Bool
passes some row values = list_all (λ field. row_admits row field (value_at field values)) some

-- the value that a row names for a field
abbrev pub named_by : Ask → Option ℕ
named_by Any = None
named_by (Exactly value) = Some value
named_by (Between least most) = None
named_by (TagType input filter) = None
named_by (NoTagType input filter) = None
named_by (Ethertype filter) = None

-- ---- the class of its frames

-- the first row that asks nothing else
abbrev pub first_row : List Row → Values → Option Row
first_row rows values = find (λ row. passes fields row values) rows

abbrev pub ending_of : List Ending → Ends → Values → Ending
ending_of endings (ends.Dropped reason) values = Dropped reason
ending_of endings (ends.ByPriority source) values = slice_index_or endings (priority_by source values) (Dropped NoMapper)

abbrev pub class_of_row : List Ending → Row → Values → FrameClass
class_of_row endings row values = record { used = row.used; ending = ending_of endings row.ends values }

-- the class of frames with these values: that of the first row that asks nothing else
abbrev pub class_by : List Ending → List Row → Values → Option FrameClass
class_by endings rows values = option_map (λ row. class_of_row endings row values) (first_row rows values)

-- ---- what the ending depends on

abbrev pub packet_number : Packet → ℕ
packet_number Ipv4 = 0
packet_number Ipv6 = 1
packet_number Other = 2

-- what a priority by the DSCP depends on in a field, where it has this value and the fields before it those
abbrev pub dscp_reads : DscpSource → Values → Field → ℕ → ℕ
dscp_reads source values field value =
    if place_of field == 0 then (if nat_le (16 + 4 * source.tags) value then 1 else 0)
    else (if place_of field == place_of (type_behind source.tags) then packet_number (packet_of value)
    else (if place_of field == place_of (vid_behind source.tags) then mapped source (dscp_behind source.tags (with_value field value values))
    else 0))

abbrev pub source_reads : Source → Values → Field → ℕ → ℕ
source_reads (Fixed priority) values field value = 0
source_reads FirstTag values field value = if place_of field == 7 then value else 0
source_reads SecondTag values field value = if place_of field == 8 then value else 0
source_reads (Dscp source) values field value = dscp_reads source values field value

abbrev pub ends_read : Ends → Values → Field → ℕ → ℕ
ends_read (ends.Dropped reason) values field value = 0
ends_read (ends.ByPriority source) values field value = source_reads source values field value

abbrev pub row_reads : Row → Values → Field → ℕ → ℕ
row_reads row values field value = ends_read row.ends values field value

-- what the priorities of added tags depend on
abbrev pub marking_reads : Option DscpSource → Values → Field → ℕ → ℕ
marking_reads None values field value = 0
marking_reads (Some source) values field value = dscp_reads source values field value

abbrev pub row_marks : Row → Values → Field → ℕ → ℕ
row_marks row values field value = marking_reads row.marking values field value

-- ---- rows of filters

-- what is asked of the length, the types and the tags
abbrev pub asks_by : Ask → Ask → Ask → Ask → TagFilter → TagFilter → List Ask
asks_by length first second third outer inner =
    length ∷ first ∷ second ∷ third ∷ vid_ask outer.vid ∷ vid_ask inner.vid ∷ Any ∷ priority_ask outer.priority ∷ priority_ask inner.priority
    ∷ eligible_ask outer.tpid ∷ eligible_ask inner.tpid ∷ []

abbrev pub any_tag : TagFilter
any_tag = record { priority = priority.Any; vid = vid.Any; tpid = tpid.Any }

abbrev pub at_least : ℕ → Ask
at_least length = Between length counted_length

-- of frames without a tag, with one, and with two
abbrev pub asks_of_none : EthertypeFilter → ℕ → List Ask
asks_of_none type input = asks_by (at_least 14) (NoTagType input type) Any Any any_tag any_tag

abbrev pub asks_of_one : TagFilter → EthertypeFilter → ℕ → List Ask
asks_of_one tag type input = asks_by (at_least 18) (TagType input tag.tpid) (NoTagType input type) Any tag any_tag

abbrev pub asks_of_two : TagFilter → TagFilter → EthertypeFilter → ℕ → List Ask
asks_of_two outer inner type input = asks_by (at_least 22) (TagType input outer.tpid) (TagType input inner.tpid) (Ethertype type) outer inner

abbrev pub asks_of : Filter → EthertypeFilter → ℕ → List Ask
asks_of filter.NoTag type input = asks_of_none type input
asks_of filter.OneTagDefault type input = asks_of_one any_tag type input
asks_of (filter.OneTag tag) type input = asks_of_one tag type input
asks_of filter.TwoTagDefault type input = asks_of_two any_tag any_tag type input
asks_of (filter.TwoTag outer inner) type input = asks_of_two outer inner type input

-- how many tags the frames of a filter have
abbrev pub tags_of : Filter → ℕ
tags_of filter.NoTag = 0
tags_of filter.OneTagDefault = 1
tags_of (filter.OneTag tag) = 1
tags_of filter.TwoTagDefault = 2
tags_of (filter.TwoTag outer inner) = 2

-- ---- tags that stay as they are

abbrev pub keep : Retag
keep = record { remove = 0; outer = None; inner = None }

-- ---- rows of frames that can't be read

abbrev pub runt_row : Row
runt_row =
    record {
      used = Unread;
      ends = ends.Dropped Runt;
      asks = asks_by (Between 0 13) Any Any Any any_tag any_tag;
      tags = 0;
      retag = keep;
      marking = None;
    }

-- those that end within a first tag, and within a second
abbrev pub first_cut_row : ℕ → Row
first_cut_row input =
    record {
      used = Unread;
      ends = ends.Dropped CutTag;
      asks = asks_by (Between 14 17) (TagType input tpid.Any) Any Any any_tag any_tag;
      tags = 0;
      retag = keep;
      marking = None;
    }

abbrev pub second_cut_row : ℕ → Row
second_cut_row input =
    record {
      used = Unread;
      ends = ends.Dropped CutTag;
      asks = asks_by (Between 18 21) (TagType input tpid.Any) (TagType input tpid.Any) Any any_tag any_tag;
      tags = 0;
      retag = keep;
      marking = None;
    }
