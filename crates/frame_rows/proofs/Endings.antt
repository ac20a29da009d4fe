-- How frames end, by the rows and by the meaning.
use Rattle.std.proofs.Common.{◌≡◌, ℕ, zero, suc, ◌<◌, ◌==◌, Bool, true, false, ◌&&◌, List, ◌++◌, Option, Some, None, arith, refl, ap, sym, length, if◌then◌else◌, nat_le, ◌∙◌}
use Rattle.std.specs.Prelude.{map, ok_or, slice_index_or}
use Rattle.std.specs.Option.{option_map}
use Rattle.std.proofs.lemmas.Bool.{ltb-true, true≢false}
use Rattle.tag_view.specs.Tag.{TagFields}
use Rattle.tag_view.specs.Dscp.{group_of}
use Rattle.vlan_rule.specs.declared.settings.TableSettings.{TableSettings}
use Rattle.vlan_rule.specs.declared.treatment.PrioritySource.{PrioritySource}
use Rattle.vlan_rule.specs.declared.treatment.PrioritySource.TheVariants as from
use Rattle.vlan_rule.specs.declared.treatment.AddedTag.{AddedTag}
use Rattle.vlan_rule.specs.declared.treatment.Retag.{Retag}
use Rattle.vlan_rule.specs.declared.treatment.Treatment.{Treatment}
use Rattle.vlan_rule.specs.declared.treatment.Treatment.TheVariants as treatment
use Rattle.vlan_rule.specs.Meaning.{addition_fits, priority_fits, treatment_fits, vid_fits}
use Rattle.treatment.specs.Treatment.{additions_from, left_of, treated_by}
use Rattle.pmapper.specs.Mapper.{Unmarked, priority_of}
use Rattle.managed_entity.specs.Instance.{Instance}
use Rattle.mib_state.specs.Entities.{Entities}
use Rattle.frame_meaning.specs.declared.reason.Reason.TheVariants.{RuleDiscard, NoMapper}
use Rattle.frame_meaning.specs.Meaning.{found_then, gem_port_at, mapper_at, unmarked_at}
use Rattle.frame_rows.specs.declared.class.Ending.{Ending}
use Rattle.frame_rows.specs.declared.class.Ending.TheVariants.{Dropped}
use Rattle.frame_rows.specs.declared.field.Values.{Values}
use Rattle.frame_rows.specs.declared.source.DscpSource.{DscpSource}
use Rattle.frame_rows.specs.declared.source.Source.{Source}
use Rattle.frame_rows.specs.declared.source.Source.TheVariants.{Fixed, FirstTag, SecondTag, Dscp}
use Rattle.frame_rows.specs.Source.{added_source, kept_source, left_source, mapped, outermost_added, priority_by, treated_source, unmarked_source}
use Rattle.frame_rows.specs.Row.{ending_of}
use Rattle.frame_rows.specs.Rows.{ending_at, ending_by, endings_at, kept_ends, treated_ends}
use Rattle.frame_rows.proofs.Priorities.{Describes, kept_is, treated_is}

-- ---- priorities are under 8

-- those of a source that gives such
abbrev IsSmall : Source → Type 0
IsSmall (Fixed priority) = priority < 8
IsSmall FirstTag = Unit {0}
IsSmall SecondTag = Unit {0}
IsSmall (Dscp source) = source.without < 8

small_group : (map : List ℕ) (dscp : ℕ) → group_of map dscp < 8
unfolding group_of
small_group map dscp = omega arith

small_mapped : (source : DscpSource) (dscp : Option ℕ) → source.without < 8 → mapped source dscp < 8
small_mapped source None h = h
small_mapped source (Some dscp) h = small_group source.map.0 dscp

small_priority : (source : Source) (values : Values) → IsSmall source → priority_by source values < 8
small_priority (Fixed priority) values h = h
small_priority FirstTag values h = omega arith
small_priority SecondTag values h = omega arith
small_priority (Dscp source) values h = small_mapped source _ h

small_unmarked : (unmarked : Unmarked) (tags : ℕ) → IsSmall (unmarked_source unmarked tags)
small_unmarked unmarked tags = by_option (unmarked.option == 0) refl
  where
    by_option : (b : Bool) → (unmarked.option == 0) ≡ b → IsSmall (unmarked_source unmarked tags)
    by_option true is = rw is (omega arith)
    by_option false is = rw is (omega arith)

small_if : (b : Bool) (one other : Source) → IsSmall one → IsSmall other → IsSmall (if b then one else other)
small_if true one other p q = p
small_if false one other p q = q

small_kept : (unmarked : Unmarked) (tags : ℕ) → IsSmall (kept_source unmarked tags)
small_kept unmarked tags = small_if (tags == 0) (unmarked_source unmarked tags) FirstTag (small_unmarked unmarked tags) tt

small_left : (remove : ℕ) (unmarked : Unmarked) (tags : ℕ) → IsSmall (left_source remove unmarked tags)
small_left remove unmarked tags =
    small_if (nat_le tags remove) (unmarked_source unmarked tags) (if remove == 0 then FirstTag else SecondTag) (small_unmarked unmarked tags)
    (small_if (remove == 0) FirstTag SecondTag tt tt)

small_added : (source : PrioritySource) (settings : TableSettings) (tags : ℕ) → priority_fits source ≡ true → IsSmall (added_source source settings tags)
small_added (from.Fixed priority) settings tags h = ltb-true priority 8 h
small_added from.Inner settings tags h =
    small_if (tags == 0) (Fixed 0) (if tags == 1 then FirstTag else SecondTag) (omega arith) (small_if (tags == 1) FirstTag SecondTag tt tt)
small_added from.Outer settings tags h = small_if (tags == 0) (Fixed 0) FirstTag (omega arith) tt
small_added from.Dscp settings tags h = omega arith

and_left : (a b : Bool) → (a && b) ≡ true → a ≡ true
and_left true b h = refl
and_left false b h = h

and_right : (a b : Bool) → (a && b) ≡ true → b ≡ true
and_right true b h = h
and_right false b h = absurd (true≢false (sym h))

small_outermost : (outer inner : Option AddedTag) (remove : ℕ) (settings : TableSettings) (unmarked : Unmarked) (tags : ℕ)
    → addition_fits outer ≡ true → addition_fits inner ≡ true → IsSmall (outermost_added outer inner remove settings unmarked tags)
small_outermost (Some added) inner remove settings unmarked tags p q =
    small_added added.priority settings tags (and_left (priority_fits added.priority) (vid_fits added.vid) p)
small_outermost None (Some added) remove settings unmarked tags p q =
    small_added added.priority settings tags (and_left (priority_fits added.priority) (vid_fits added.vid) q)
small_outermost None None remove settings unmarked tags p q = small_left remove unmarked tags

small_treated : (retag : Retag) (settings : TableSettings) (unmarked : Unmarked) (tags : ℕ) → treatment_fits (treatment.Retag retag) ≡ true
    → IsSmall (treated_source retag settings unmarked tags)
small_treated retag settings unmarked tags fits =
    let additions = and_right (nat_le retag.remove 2) (addition_fits retag.outer && addition_fits retag.inner) fits in
    small_outermost retag.outer retag.inner retag.remove settings unmarked tags
    (and_left (addition_fits retag.outer) (addition_fits retag.inner) additions) (and_right (addition_fits retag.outer) (addition_fits retag.inner) additions)

-- ---- the ending of a priority

ending_there : (e : Entities) (port priority : ℕ) (d : Ending) → priority < 8 → slice_index_or (endings_at e port) priority d ≡ ending_at e port priority
ending_there e port zero d h = refl
ending_there e port (suc zero) d h = refl
ending_there e port (suc (suc zero)) d h = refl
ending_there e port (suc (suc (suc zero))) d h = refl
ending_there e port (suc (suc (suc (suc zero)))) d h = refl
ending_there e port (suc (suc (suc (suc (suc zero))))) d h = refl
ending_there e port (suc (suc (suc (suc (suc (suc zero)))))) d h = refl
ending_there e port (suc (suc (suc (suc (suc (suc (suc zero))))))) d h = refl
ending_there e port (suc (suc (suc (suc (suc (suc (suc (suc more)))))))) d h = absurd (omega arith)

-- of frames that leave the table with these tags
abbrev pub left_ending : Entities → ℕ → List TagFields → Option ℕ → Ending
left_ending e port tags dscp = ending_by (gem_port_at e port tags dscp)

-- by a source that gives the priority of the tags
by_source : (e : Entities) (port : ℕ) (mapper : Instance) (tags : List TagFields) (dscp : Option ℕ) (source : Source) (values : Values)
    → mapper_at e port ≡ Some mapper → IsSmall source → priority_of (unmarked_at mapper) tags dscp ≡ priority_by source values
    → slice_index_or (endings_at e port) (priority_by source values) (Dropped NoMapper) ≡ left_ending e port tags dscp
unfolding gem_port_at
by_source e port mapper tags dscp source values there small same =
    ending_there e port (priority_by source values) (Dropped NoMapper) (small_priority source values small)
    ∙ rw (there, same) refl

-- frames that leave as they came
pub kept_ending : (e : Entities) (port : ℕ) (tags : List TagFields) (dscp : Option ℕ) (values : Values) → Describes values tags dscp
    → ending_of (endings_at e port) (kept_ends (option_map unmarked_at (mapper_at e port)) (length tags)) values ≡ left_ending e port tags dscp
unfolding gem_port_at
kept_ending e port tags dscp values d = by_mapper (mapper_at e port) refl
  where
    by_mapper : (m : Option Instance) → mapper_at e port ≡ m
        → ending_of (endings_at e port) (kept_ends (option_map unmarked_at (mapper_at e port)) (length tags)) values ≡ left_ending e port tags dscp
    by_mapper None is = rw is refl
    by_mapper (Some mapper) is =
        let ending = by_source e port mapper tags dscp (kept_source (unmarked_at mapper) (length tags)) values is (small_kept (unmarked_at mapper) (length tags))
        (kept_is (unmarked_at mapper) values tags dscp d) in
        ap (λ (m : Option Instance). ending_of (endings_at e port) (kept_ends (option_map unmarked_at m) (length tags)) values) is ∙ ending

-- frames that leave by a treatment
pub treated_ending : (e : Entities) (port : ℕ) (by : Treatment) (settings : TableSettings) (tags : List TagFields) (dscp : Option ℕ) (values : Values)
    → treatment_fits by ≡ true → Describes values tags dscp
    → ending_of (endings_at e port) (treated_ends by settings (option_map unmarked_at (mapper_at e port)) (length tags)) values
    ≡ ending_by (found_then (ok_or (treated_by by settings tags dscp) RuleDiscard) (λ out. gem_port_at e port out dscp))
unfolding treated_by gem_port_at
treated_ending e port treatment.Discard settings tags dscp values fits d = refl
treated_ending e port (treatment.Retag retag) settings tags dscp values fits d = by_mapper (mapper_at e port) refl
  where
    out : List TagFields
    out = additions_from retag settings tags dscp ++ left_of retag.remove tags

    by_mapper : (m : Option Instance) → mapper_at e port ≡ m
        → ending_of (endings_at e port) (treated_ends (treatment.Retag retag) settings (option_map unmarked_at (mapper_at e port)) (length tags)) values
        ≡ left_ending e port out dscp
    by_mapper None is = rw is refl
    by_mapper (Some mapper) is =
        let ending = by_source e port mapper out dscp (treated_source retag settings (unmarked_at mapper) (length tags)) values is
        (small_treated retag settings (unmarked_at mapper) (length tags) fits) (treated_is retag settings (unmarked_at mapper) values tags dscp d) in
        ap (λ (m : Option Instance). ending_of (endings_at e port) (treated_ends (treatment.Retag retag) settings (option_map unmarked_at m) (length tags)) values) is ∙ ending
