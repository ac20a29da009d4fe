-- What a filter asks of a frame: the number of the tags that are read, fields of the outer and of the inner one (IEEE 802.1Q, 9.6), the
-- type behind them, and the DSCP (RFC 2474, section 3).
use Rattle.std.specs.Prelude.{ℕ, Bool, true, false, not, ◌&&◌, ◌==◌, List, [], ◌∷◌, Option, Some, None, is_none, length}
use Rattle.tag_view.specs.Tag.{TagFields}
use Rattle.tag_view.specs.Frame.{Reading, type_at}
use Rattle.tag_view.specs.Dscp.{dscp_of}
use Rattle.vlan_rule.specs.declared.filter.PriorityFilter.{PriorityFilter}
use Rattle.vlan_rule.specs.declared.filter.PriorityFilter.TheVariants as priority
use Rattle.vlan_rule.specs.declared.filter.VidFilter.{VidFilter}
use Rattle.vlan_rule.specs.declared.filter.VidFilter.TheVariants as vid
use Rattle.vlan_rule.specs.Choice.{has_priority, has_type, has_vid}
use Rattle.frame_expectation.specs.declared.filter.TagCondition.{TagCondition}
use Rattle.frame_expectation.specs.declared.filter.TypeCondition.{TypeCondition}
use Rattle.frame_expectation.specs.declared.filter.TypeCondition.TheVariants as type
use Rattle.frame_expectation.specs.declared.filter.FrameFilter.{FrameFilter}

-- ---- numbers and flags

-- a number is the one that is asked for, if one is
abbrev pub is_number : Option ℕ → ℕ → Bool
is_number None found = true
is_number (Some only) found = found == only

-- and what a frame may lack is there
abbrev pub is_there : Option ℕ → Option ℕ → Bool
is_there None found = true
is_there (Some only) None = false
is_there (Some only) (Some found) = found == only

-- a drop eligible indicator is the one that is asked for, if one is
abbrev pub is_eligible : Option Bool → Bool → Bool
is_eligible None found = true
is_eligible (Some true) found = found
is_eligible (Some false) found = not found

-- ---- tags

-- the outer tag, which only two tags have: the first
abbrev pub outer_tag : List TagFields → Option TagFields
outer_tag [] = None
outer_tag (tag ∷ []) = None
outer_tag (tag ∷ next ∷ rest) = Some tag

-- the inner tag: the last, which of one tag is that tag
abbrev pub inner_tag : List TagFields → Option TagFields
inner_tag [] = None
inner_tag (tag ∷ []) = Some tag
inner_tag (tag ∷ next ∷ rest) = inner_tag (next ∷ rest)

abbrev pub is_any_priority : PriorityFilter → Bool
is_any_priority priority.Any = true
is_any_priority (priority.Exactly p) = false

abbrev pub is_any_vid : VidFilter → Bool
is_any_vid vid.Any = true
is_any_vid (vid.Exactly v) = false

-- nothing is asked of a tag
abbrev pub asks_nothing : TagCondition → Bool
asks_nothing asked = is_any_priority asked.priority && (is_none asked.eligible && (is_any_vid asked.vid && is_none asked.tpid))

-- a tag is as is asked
abbrev pub is_tag : TagCondition → TagFields → Bool
is_tag asked tag =
    has_priority asked.priority tag && (is_eligible asked.eligible tag.dei && (has_vid asked.vid tag && is_number asked.tpid tag.tpid))

-- the tag that a frame has is as is asked; of one that it lacks nothing is
abbrev pub tag_admits : TagCondition → Option TagFields → Bool
tag_admits asked None = asks_nothing asked
tag_admits asked (Some tag) = is_tag asked tag

-- ---- types

abbrev pub is_type : TypeCondition → ℕ → Bool
is_type (type.Class class) found = has_type class found
is_type (type.Exactly only) found = found == only

-- ---- frames

-- a frame that is read so is as the filter asks
abbrev pub is_as : FrameFilter → Reading → Bool
is_as filter frame =
    is_number filter.tags (length frame.tags)
    && (tag_admits filter.outer (outer_tag frame.tags)
    && (tag_admits filter.inner (inner_tag frame.tags)
    && (is_type filter.ethertype (type_at 0 frame.rest) && is_there filter.dscp (dscp_of frame.rest))))
