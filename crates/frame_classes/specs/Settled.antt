-- Where one value of a priority, or of a drop eligible indicator, that no row asks or ends by stands for all.
use Rattle.std.specs.Prelude.{ℕ, Bool, true, false, ◌&&◌, ◌||◌, ◌==◌, List, [], ◌∷◌, Option, Some, None, if◌then◌else◌, nat_lt}
use Rattle.std.specs.List.{list_all}
use Rattle.vlan_rule.specs.declared.treatment.AddedTag.{AddedTag}
use Rattle.vlan_rule.specs.declared.treatment.EligibleSource.{EligibleSource}
use Rattle.vlan_rule.specs.declared.treatment.EligibleSource.TheVariants as eligible
use Rattle.vlan_rule.specs.declared.treatment.PrioritySource.{PrioritySource}
use Rattle.vlan_rule.specs.declared.treatment.PrioritySource.TheVariants as priority
use Rattle.frame_rows.specs.declared.ask.Ask.{Ask}
use Rattle.frame_rows.specs.declared.ask.Ask.TheVariants.{Any, Exactly, Between, TagType, NoTagType, Ethertype}
use Rattle.frame_rows.specs.declared.field.Field.{Field}
use Rattle.frame_rows.specs.declared.row.Ends.{Ends}
use Rattle.frame_rows.specs.declared.row.Ends.TheVariants as ends
use Rattle.frame_rows.specs.declared.row.Row.{Row}
use Rattle.frame_rows.specs.Field.{fields, place_of}
use Rattle.frame_rows.specs.Row.{ask_at}
use Rattle.frame_rows.specs.Sight.{Side}
use Rattle.frame_classes.specs.Left.{first_left}

abbrev pub is_any : Ask → Bool
is_any Any = true
is_any (Exactly value) = false
is_any (Between least most) = false
is_any (TagType input filter) = false
is_any (NoTagType input filter) = false
is_any (Ethertype filter) = false

-- a row asks nothing of a field and those behind it
abbrev pub asks_nothing : Row → Field → Bool
asks_nothing row field = list_all (λ later. nat_lt (place_of later) (place_of field) || is_any (ask_at row later)) fields

-- its frames are dropped whatever their values are
abbrev pub is_dropped : Ends → Bool
is_dropped (ends.Dropped reason) = true
is_dropped (ends.ByPriority source) = false

-- the priority comes from the same, which is no DSCP
abbrev pub is_priority_alike : PrioritySource → PrioritySource → Bool
is_priority_alike (priority.Fixed one) (priority.Fixed other) = one == other
is_priority_alike priority.Inner priority.Inner = true
is_priority_alike priority.Outer priority.Outer = true
is_priority_alike _ _ = false

-- the drop eligible indicator does
abbrev pub is_eligible_alike : EligibleSource → EligibleSource → Bool
is_eligible_alike eligible.Inner eligible.Inner = true
is_eligible_alike eligible.Outer eligible.Outer = true
is_eligible_alike eligible.Clear eligible.Clear = true
is_eligible_alike eligible.Set eligible.Set = true
is_eligible_alike _ _ = false

-- a priority's field, before those of the drop eligible indicators
abbrev pub is_part_alike : Field → AddedTag → AddedTag → Bool
is_part_alike field one other = if nat_lt (place_of field) 9 then is_priority_alike one.priority other.priority else is_eligible_alike one.eligible other.eligible

abbrev pub are_added_alike : Field → Option AddedTag → Option AddedTag → Bool
are_added_alike field None None = true
are_added_alike field None (Some other) = false
are_added_alike field (Some one) None = false
are_added_alike field (Some one) (Some other) = is_part_alike field one other

-- two rows read as many tags, take as many off, and add tags that have the field's part from the same
abbrev pub copy_alike : Field → Row → Row → Bool
copy_alike field one other =
    (one.tags == other.tags && one.retag.remove == other.retag.remove)
    && (are_added_alike field one.retag.outer other.retag.outer && are_added_alike field one.retag.inner other.retag.inner)

abbrev pub are_rows_settled : Field → Row → Row → Bool
are_rows_settled field one other =
    (asks_nothing one field && asks_nothing other field) && ((is_dropped one.ends || is_dropped other.ends) || copy_alike field one other)

abbrev pub are_settled_by : Field → Option Row → Option Row → Bool
are_settled_by field (Some one) (Some other) = are_rows_settled field one other
are_settled_by field (Some one) None = false
are_settled_by field None other = false

-- the first rows of two sides that are left are so
abbrev pub are_settled : List Side → List ℕ → Field → ℕ → ℕ → Bool
are_settled sides places field one other = are_settled_by field (first_left sides places one) (first_left sides places other)

-- and so it is for the sides that are compared
abbrev pub is_settled : List Side → List ℕ → Field → Bool
is_settled [] places field = true
is_settled (one ∷ []) places field = true
is_settled (before ∷ after ∷ []) places field = are_settled (before ∷ after ∷ []) places field 0 1
is_settled (before ∷ here ∷ after ∷ rest) places field =
    are_settled (before ∷ here ∷ after ∷ rest) places field 1 0 && are_settled (before ∷ here ∷ after ∷ rest) places field 1 2
