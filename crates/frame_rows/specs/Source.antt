-- The priority of frames by their values.
use Rattle.std.specs.Prelude.{ℕ, ◌+◌, ◌*◌, ◌/◌, ◌%◌, ◌^◌, Bool, true, false, Option, Some, None, if◌then◌else◌, ◌==◌, nat_le, nat_lt}
use Rattle.tag_view.specs.Dscp.{group_of}
use Rattle.vlan_rule.specs.declared.settings.TableSettings.{TableSettings}
use Rattle.vlan_rule.specs.declared.treatment.PrioritySource.{PrioritySource}
use Rattle.vlan_rule.specs.declared.treatment.PrioritySource.TheVariants as from
use Rattle.vlan_rule.specs.declared.treatment.AddedTag.{AddedTag}
use Rattle.vlan_rule.specs.declared.treatment.Retag.{Retag}
use Rattle.pmapper.specs.Mapper.{Unmarked, default_priority}
use Rattle.frame_rows.specs.declared.field.Field.TheVariants.{Length, FirstPriority, SecondPriority}
use Rattle.frame_rows.specs.declared.field.Values.{Values}
use Rattle.frame_rows.specs.declared.source.Packet.{Packet}
use Rattle.frame_rows.specs.declared.source.Packet.TheVariants.{Ipv4, Ipv6, Other}
use Rattle.frame_rows.specs.declared.source.DscpSource.{DscpSource}
use Rattle.frame_rows.specs.declared.source.Source.{Source}
use Rattle.frame_rows.specs.declared.source.Source.TheVariants.{Fixed, FirstTag, SecondTag, Dscp}
use Rattle.frame_rows.specs.Field.{type_behind, value_at, vid_behind}

abbrev pub packet_of : ℕ → Packet
packet_of type = if type == 0x0800 then Ipv4 else (if type == 0x86DD then Ipv6 else Other)

-- the DSCP of a packet whose first two bytes have these low twelve bits
abbrev pub dscp_in : Packet → ℕ → Option ℕ
dscp_in Ipv4 bits = Some (bits / 2 ^ 2 % 2 ^ 6)
dscp_in Ipv6 bits = Some (bits / 2 ^ 6 % 2 ^ 6)
dscp_in Other bits = None

abbrev pub has_dscp : Packet → Bool
has_dscp Ipv4 = true
has_dscp Ipv6 = true
has_dscp Other = false

-- twelve bits with a DSCP, and six others: the length of an IPv4 header before its congestion bits
abbrev pub bits_by : Packet → ℕ → ℕ → ℕ
bits_by Ipv4 dscp other = (5 + other / 4) % 16 * 0x100 + dscp * 4 + other % 4
bits_by Ipv6 dscp other = dscp * 0x40 + other
bits_by Other dscp other = dscp * 0x40 + other

-- the DSCP of frames with these values behind so many tags
abbrev pub dscp_behind : ℕ → Values → Option ℕ
dscp_behind tags values =
    if nat_lt (value_at Length values) (16 + 4 * tags) then None
    else dscp_in (packet_of (value_at (type_behind tags) values)) (value_at (vid_behind tags) values)

abbrev pub mapped : DscpSource → Option ℕ → ℕ
mapped source None = source.without
mapped source (Some dscp) = group_of source.map.0 dscp

-- the priority of frames with these values
abbrev pub priority_by : Source → Values → ℕ
priority_by (Fixed priority) values = priority
priority_by FirstTag values = value_at FirstPriority values % 2 ^ 3
priority_by SecondTag values = value_at SecondPriority values % 2 ^ 3
priority_by (Dscp source) values = mapped source (dscp_behind source.tags values)

-- ---- where the priority comes from

-- of frames with so many tags that leave without one
abbrev pub unmarked_source : Unmarked → ℕ → Source
unmarked_source unmarked tags =
    if unmarked.option == 0
    then Dscp (record { tags = tags; map = record { 0 = unmarked.dscp_map }; without = default_priority unmarked })
    else Fixed (default_priority unmarked)

-- of frames with so many tags, that of the first
abbrev pub outermost_source : ℕ → Source
outermost_source tags = if tags == 0 then Fixed 0 else FirstTag

-- and that of the last
abbrev pub innermost_source : ℕ → Source
innermost_source tags = if tags == 0 then Fixed 0 else (if tags == 1 then FirstTag else SecondTag)

-- of frames that leave with an added tag outside
abbrev pub added_source : PrioritySource → TableSettings → ℕ → Source
added_source (from.Fixed priority) settings tags = Fixed priority
added_source from.Inner settings tags = innermost_source tags
added_source from.Outer settings tags = outermost_source tags
added_source from.Dscp settings tags = Dscp (record { tags = tags; map = settings.dscp_map; without = 0 })

-- of frames that leave as they came
abbrev pub kept_source : Unmarked → ℕ → Source
kept_source unmarked tags = if tags == 0 then unmarked_source unmarked tags else FirstTag

-- of frames that leave without some of the first tags, and with none that is added
abbrev pub left_source : ℕ → Unmarked → ℕ → Source
left_source remove unmarked tags =
    if nat_le tags remove then unmarked_source unmarked tags
    else (if remove == 0 then FirstTag else SecondTag)

-- of frames that leave by a treatment
abbrev pub outermost_added : Option AddedTag → Option AddedTag → ℕ → TableSettings → Unmarked → ℕ → Source
outermost_added (Some added) inner remove settings unmarked tags = added_source added.priority settings tags
outermost_added None (Some added) remove settings unmarked tags = added_source added.priority settings tags
outermost_added None None remove settings unmarked tags = left_source remove unmarked tags

abbrev pub treated_source : Retag → TableSettings → Unmarked → ℕ → Source
treated_source retag settings unmarked tags = outermost_added retag.outer retag.inner retag.remove settings unmarked tags
