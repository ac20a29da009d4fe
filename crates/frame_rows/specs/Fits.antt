-- What rows of a port ask and read, whatever its table.
use Rattle.std.specs.Prelude.{ℕ, ◌+◌, ◌*◌, Bool, true, false, Option, Some, None, ◌&&◌, ◌||◌, ◌==◌, nat_le, nat_lt}
use Rattle.std.specs.List.{list_all}
use Rattle.tag_view.specs.Tag.{is_tag_type}
use Rattle.vlan_rule.specs.declared.treatment.Treatment.TheVariants as treatment
use Rattle.vlan_rule.specs.Meaning.{treatment_fits}
use Rattle.frame_rows.specs.declared.ask.Ask.{Ask}
use Rattle.frame_rows.specs.declared.ask.Ask.TheVariants.{Any, Exactly, Between, TagType, NoTagType, Ethertype}
use Rattle.frame_rows.specs.declared.field.Field.{Field}
use Rattle.frame_rows.specs.declared.field.Field.TheVariants.{Length, FirstType, SecondType, ThirdType, FirstVid, SecondVid, ThirdVid, FirstPriority, SecondPriority, FirstEligible, SecondEligible}
use Rattle.frame_rows.specs.declared.source.DscpSource.{DscpSource}
use Rattle.frame_rows.specs.declared.source.Source.{Source}
use Rattle.frame_rows.specs.declared.source.Source.TheVariants.{Fixed, FirstTag, SecondTag, Dscp}
use Rattle.frame_rows.specs.declared.row.Ends.{Ends}
use Rattle.frame_rows.specs.declared.row.Ends.TheVariants as ends
use Rattle.frame_rows.specs.declared.row.Row.{Row}
use Rattle.frame_rows.specs.Field.{fields}
use Rattle.frame_rows.specs.Row.{ask_at}

-- a number is asked for, or none
abbrev pub asks_number : Ask → Bool
asks_number Any = true
asks_number (Exactly value) = true
asks_number (Between least most) = false
asks_number (TagType input filter) = false
asks_number (NoTagType input filter) = false
asks_number (Ethertype filter) = false

-- a type is asked for, by its number or by this input TPID, or none
abbrev pub asks_type : ℕ → Ask → Bool
asks_type input Any = true
asks_type input (Exactly value) = true
asks_type input (Between least most) = false
asks_type input (TagType type filter) = type == input
asks_type input (NoTagType type filter) = type == input
asks_type input (Ethertype filter) = true

-- lengths are told apart where a field ends: the most of one kind is one less than the least of the next
abbrev pub is_least : ℕ → Bool
is_least length = length == 0 || length == 14 || length == 18 || length == 22

abbrev pub is_most : ℕ → Bool
is_most length = length == 13 || length == 17 || length == 21 || length == 24

abbrev pub asks_length : Ask → Bool
asks_length Any = true
asks_length (Exactly value) = false
asks_length (Between least most) = is_least least && is_most most
asks_length (TagType input filter) = false
asks_length (NoTagType input filter) = false
asks_length (Ethertype filter) = false

abbrev pub ask_fits : ℕ → Field → Ask → Bool
ask_fits input Length ask = asks_length ask
ask_fits input FirstType ask = asks_type input ask
ask_fits input SecondType ask = asks_type input ask
ask_fits input ThirdType ask = asks_type input ask
ask_fits input FirstVid ask = asks_number ask
ask_fits input SecondVid ask = asks_number ask
ask_fits input ThirdVid ask = asks_number ask
ask_fits input FirstPriority ask = asks_number ask
ask_fits input SecondPriority ask = asks_number ask
ask_fits input FirstEligible ask = asks_number ask
ask_fits input SecondEligible ask = asks_number ask

-- a DSCP stands behind two tags at most
abbrev pub source_fits : Source → Bool
source_fits (Fixed priority) = true
source_fits FirstTag = true
source_fits SecondTag = true
source_fits (Dscp source) = nat_lt source.tags 3

abbrev pub ends_fit : Ends → Bool
ends_fit (ends.Dropped reason) = true
ends_fit (ends.ByPriority source) = source_fits source

-- a tag is asked for, by its TPID or by this input TPID
abbrev pub asks_tag : ℕ → Ask → Bool
asks_tag input Any = false
asks_tag input (Exactly value) = is_tag_type input value
asks_tag input (Between least most) = false
asks_tag input (TagType type filter) = type == input
asks_tag input (NoTagType type filter) = false
asks_tag input (Ethertype filter) = false

-- at least so many bytes are asked for
abbrev pub asks_long : ℕ → Ask → Bool
asks_long length Any = false
asks_long length (Exactly value) = false
asks_long length (Between least most) = nat_le length least
asks_long length (TagType input filter) = false
asks_long length (NoTagType input filter) = false
asks_long length (Ethertype filter) = false

-- frames that may leave have their tags and a type
abbrev pub length_fits : Ends → ℕ → Ask → Bool
length_fits (ends.Dropped reason) tags ask = true
length_fits (ends.ByPriority source) tags ask = asks_long (14 + 4 * tags) ask

-- two tags are read at most, each is asked for, and frames that may leave have them
abbrev pub tags_fit : ℕ → Row → Bool
tags_fit input row =
    nat_lt row.tags 3
    && ((nat_lt row.tags 1 || asks_tag input (ask_at row FirstType))
    && ((nat_lt row.tags 2 || asks_tag input (ask_at row SecondType)) && length_fits row.ends row.tags (ask_at row Length)))

abbrev pub marking_fits : Option DscpSource → Bool
marking_fits None = true
marking_fits (Some source) = nat_lt source.tags 3

-- what is added can stand in a tag
abbrev pub row_fits : ℕ → Row → Bool
row_fits input row =
    list_all (λ field. ask_fits input field (ask_at row field)) fields
    && (ends_fit row.ends && (marking_fits row.marking && (tags_fit input row && treatment_fits (treatment.Retag row.retag))))
