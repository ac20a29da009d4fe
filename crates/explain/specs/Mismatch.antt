-- By which field an entry doesn't admit a frame: the first, of the number of tags, the filters of the outer tag and of the inner
-- one, each by priority, VID and TPID/DE, and the Ethertype (ITU-T G.988, clause 9.3.13).
use Rattle.std.specs.Prelude.{◌≡◌, ℕ, not, List, [], ◌∷◌, Option, Some, None, if◌then◌else◌, ◌==◌, is_none, length, option_map}
use Rattle.std.specs.Option.{option_or}
use Rattle.tag_view.specs.Tag.{TagFields}
use Rattle.vlan_rule.specs.declared.filter.PriorityFilter.TheVariants as priority
use Rattle.vlan_rule.specs.declared.filter.VidFilter.TheVariants as vid
use Rattle.vlan_rule.specs.declared.filter.TpidFilter.TheVariants as tpid
use Rattle.vlan_rule.specs.declared.filter.EthertypeFilter.{EthertypeFilter}
use Rattle.vlan_rule.specs.declared.filter.TagFilter.{TagFilter}
use Rattle.vlan_rule.specs.declared.filter.Filter.{Filter}
use Rattle.vlan_rule.specs.declared.filter.Filter.TheVariants as filter
use Rattle.vlan_rule.specs.Meaning.{ethertype_of, filter_of}
use Rattle.vlan_rule.specs.Choice.{has_priority, has_tpid, has_type, has_vid, matches}
use Rattle.treatment.specs.Treatment.{inner_of}
use Rattle.explain.specs.declared.mismatch.TagField.{TagField}
use Rattle.explain.specs.declared.mismatch.TagField.TheVariants as field
use Rattle.explain.specs.declared.mismatch.Mismatch.{Mismatch}
use Rattle.explain.specs.declared.mismatch.Mismatch.TheVariants.{TagCount, Outer, Inner, Ethertype}

-- ---- what a filter asks

-- what every tag is
abbrev pub any_tag : TagFilter
any_tag = record { priority = priority.Any; vid = vid.Any; tpid = tpid.Any }

-- how many tags
abbrev pub tag_count : Filter → ℕ
tag_count filter.NoTag = 0
tag_count filter.OneTagDefault = 1
tag_count (filter.OneTag inner) = 1
tag_count filter.TwoTagDefault = 2
tag_count (filter.TwoTag outer inner) = 2

-- what the outer tag must be
abbrev pub outer_filter : Filter → TagFilter
outer_filter filter.NoTag = any_tag
outer_filter filter.OneTagDefault = any_tag
outer_filter (filter.OneTag inner) = any_tag
outer_filter filter.TwoTagDefault = any_tag
outer_filter (filter.TwoTag outer inner) = outer

-- what the inner tag must be
abbrev pub inner_filter : Filter → TagFilter
inner_filter filter.NoTag = any_tag
inner_filter filter.OneTagDefault = any_tag
inner_filter (filter.OneTag inner) = inner
inner_filter filter.TwoTagDefault = any_tag
inner_filter (filter.TwoTag outer inner) = inner

-- ---- by which field a frame isn't so

abbrev pub tag_mismatch : ℕ → TagFilter → TagFields → Option TagField
tag_mismatch input f tag =
    if not (has_priority f.priority tag) then Some field.Priority
    else (if not (has_vid f.vid tag) then Some field.Vid
    else (if not (has_tpid input f.tpid tag) then Some field.Tpid
    else None))

-- the first of the tags
abbrev pub outer_mismatch : ℕ → TagFilter → List TagFields → Option TagField
outer_mismatch input f [] = None
outer_mismatch input f (tag ∷ rest) = tag_mismatch input f tag

-- the last of the tags
abbrev pub inner_mismatch : ℕ → TagFilter → List TagFields → Option TagField
inner_mismatch input f [] = None
inner_mismatch input f (tag ∷ rest) = tag_mismatch input f (inner_of (tag ∷ rest))

abbrev pub mismatch_by : ℕ → List TagFields → ℕ → Filter → EthertypeFilter → Option Mismatch
mismatch_by input tags type f e =
    if not (length tags == tag_count f) then Some TagCount
    else option_or (option_map Outer (outer_mismatch input (outer_filter f) tags))
    (option_or (option_map Inner (inner_mismatch input (inner_filter f) tags))
    (if not (has_type e type) then Some Ethertype else None))

-- the first field by which an entry doesn't admit a frame with these tags and this type behind them
unfoldable pub mismatch : ℕ → List TagFields → ℕ → List ℕ → Option Mismatch
mismatch input tags type entry = mismatch_by input tags type (filter_of entry) (ethertype_of entry)

-- ---- law

-- there is none exactly where the entry matches the frame
pub record MatchesWithoutMismatch : Type 0 where
  pub none : (input : ℕ) (tags : List TagFields) (type : ℕ) (entry : List ℕ) → is_none (mismatch input tags type entry) ≡ matches input tags type entry
