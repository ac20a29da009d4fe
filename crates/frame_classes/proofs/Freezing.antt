-- What the tags with which frames leave depend on, where the priority of their DSCP is held.
use Rattle.std.proofs.Common.{◌≡◌, ◌≢◌, ◌<◌, ◌≤◌, ◌||◌, ◌++◌, ℕ, zero, suc, Bool, true, false, List, [], ◌∷◌, Option, Some, None, arith, refl, ap, sym, drop, get_or, if◌then◌else◌, ◌∙◌}
use Rattle.std.proofs.lemmas.Bool.{true≢false}
use Rattle.std.proofs.lemmas.List.{get_or-set_other}
use Rattle.tag_view.specs.Tag.{TagFields}
use Rattle.vlan_rule.specs.declared.settings.TableSettings.{TableSettings}
use Rattle.vlan_rule.specs.declared.treatment.AddedTag.{AddedTag}
use Rattle.vlan_rule.specs.declared.treatment.Retag.{Retag}
use Rattle.vlan_rule.specs.declared.treatment.Treatment.TheVariants as treatment
use Rattle.vlan_rule.specs.declared.treatment.PrioritySource.{PrioritySource}
use Rattle.vlan_rule.specs.declared.treatment.PrioritySource.TheVariants as priority
use Rattle.treatment.specs.Treatment.{addition_from, additions_from, dscp_priority, left_of, priority_from, tag_from}
use Rattle.treatment.specs.Compiled.{adds_dscp, is_from_dscp, takes_dscp}
use Rattle.frame_rows.specs.declared.field.Field.{Field}
use Rattle.frame_rows.specs.declared.field.Field.TheVariants.{Length, FirstType, SecondType, ThirdType, FirstVid, SecondVid, ThirdVid, FirstPriority, SecondPriority, FirstEligible, SecondEligible}
use Rattle.frame_rows.specs.declared.field.Values.{Values}
use Rattle.frame_rows.specs.declared.row.Row.{Row}
use Rattle.frame_rows.specs.declared.source.DscpSource.{DscpSource}
use Rattle.frame_rows.specs.Field.{place_of, with_value}
use Rattle.frame_rows.specs.Rows.{IsMarked}
use Rattle.frame_rows.specs.Sight.{slots}
use Rattle.frame_rows.specs.Source.{mapped}
use Rattle.frame_classes.proofs.Frozen.{frozen}

-- ---- the DSCP

-- only where a priority is the DSCP's it matters
priority_same : (from : PrioritySource) (settings : TableSettings) (tags : List TagFields) (d e : Option ℕ)
    → (is_from_dscp from ≡ true → dscp_priority settings.dscp_map.0 d ≡ dscp_priority settings.dscp_map.0 e)
    → priority_from from settings tags d ≡ priority_from from settings tags e
priority_same (priority.Fixed p) settings tags d e same = refl
priority_same priority.Inner settings tags d e same = refl
priority_same priority.Outer settings tags d e same = refl
priority_same priority.Dscp settings tags d e same = same refl

addition_same : (added : Option AddedTag) (settings : TableSettings) (tags : List TagFields) (d e : Option ℕ)
    → (adds_dscp added ≡ true → dscp_priority settings.dscp_map.0 d ≡ dscp_priority settings.dscp_map.0 e)
    → addition_from added settings tags d ≡ addition_from added settings tags e
addition_same None settings tags d e same = refl
addition_same (Some added) settings tags d e same =
    ap (λ (p : ℕ). record (tag_from added settings tags d) { pcp = p } ∷ []) (priority_same added.priority settings tags d e same)

or_left : (a b : Bool) → a ≡ true → (a || b) ≡ true
or_left true b h = refl
or_left false b h = absurd (true≢false (sym h))

or_right : (a b : Bool) → b ≡ true → (a || b) ≡ true
or_right true b h = refl
or_right false b h = h

additions_same : (retag : Retag) (settings : TableSettings) (tags : List TagFields) (d e : Option ℕ)
    → (takes_dscp (treatment.Retag retag) ≡ true → dscp_priority settings.dscp_map.0 d ≡ dscp_priority settings.dscp_map.0 e)
    → additions_from retag settings tags d ≡ additions_from retag settings tags e
additions_same retag settings tags d e same =
    let outer : addition_from retag.outer settings tags d ≡ addition_from retag.outer settings tags e =
    addition_same retag.outer settings tags d e (λ h. same (or_left (adds_dscp retag.outer) (adds_dscp retag.inner) h)) in
    let inner : addition_from retag.inner settings tags d ≡ addition_from retag.inner settings tags e =
    addition_same retag.inner settings tags d e (λ h. same (or_right (adds_dscp retag.outer) (adds_dscp retag.inner) h)) in
    ap (λ (added : List TagFields). added ++ addition_from retag.inner settings tags d) outer
    ∙ ap (λ (added : List TagFields). addition_from retag.outer settings tags e ++ added) inner

-- what a source says of a DSCP is what the settings' mapping does
mapped_is : (source : DscpSource) (d : Option ℕ) → source.without ≡ 0 → mapped source d ≡ dscp_priority source.map.0 d
mapped_is source None h = h
mapped_is source (Some dscp) h = refl

mapped_by : (settings : TableSettings) (row : Row) (d e : Option ℕ) → IsMarked settings row
    → ((source : DscpSource) → row.marking ≡ Some source → mapped source d ≡ mapped source e)
    → takes_dscp (treatment.Retag row.retag) ≡ true → dscp_priority settings.dscp_map.0 d ≡ dscp_priority settings.dscp_map.0 e
mapped_by settings row d e marked same takes =
    let source : DscpSource = record { tags = row.tags; map = settings.dscp_map; without = 0 } in
    let is : row.marking ≡ Some source = marked ∙ ap (λ (b : Bool). if b then Some source else None) takes in
    sym (mapped_is source d refl) ∙ same source is ∙ mapped_is source e refl

-- by two DSCPs that a row takes for the same its frames leave with the same tags
pub frozen_same : (settings : TableSettings) (count : ℕ) (row : Row) (d e : Option ℕ) (values : Values) → IsMarked settings row
    → ((source : DscpSource) → row.marking ≡ Some source → mapped source d ≡ mapped source e)
    → frozen settings count row d values ≡ frozen settings count row e values
frozen_same settings count row d e values marked same =
    ap (λ (added : List TagFields). (added ++ left_of row.retag.remove (slots row.tags values)) ++ drop row.tags (slots count values))
    (additions_same row.retag settings (slots row.tags values) d e (mapped_by settings row d e marked same))

-- ---- lengths and types

-- so many slots don't depend on a field
slots_apart : (n : ℕ) (field : Field) (values : Values) (c : ℕ) → place_of field < 4 → (place_of field ≡ 1 → n ≡ 0) → (place_of field ≡ 2 → n ≤ 1)
    → slots n (with_value field c values) ≡ slots n values
slots_apart zero field values c early none one = refl
slots_apart (suc n) Length values c early none one =
    let other : (j : ℕ) → j ≢ 0 → get_or (with_value Length c values).values j 0 ≡ get_or values.values j 0 =
    λ j apart. get_or-set_other values.values 0 j c 0 apart in
    rw (
      other 1 (omega arith),
      other 2 (omega arith),
      other 4 (omega arith),
      other 5 (omega arith),
      other 7 (omega arith),
      other 8 (omega arith),
      other 9 (omega arith),
      other 10 (omega arith),
    ) refl
slots_apart (suc n) FirstType values c early none one = absurd (omega (arith, none refl))
slots_apart (suc zero) SecondType values c early none one =
    let other : (j : ℕ) → j ≢ 2 → get_or (with_value SecondType c values).values j 0 ≡ get_or values.values j 0 =
    λ j apart. get_or-set_other values.values 2 j c 0 apart in
    rw (other 1 (omega arith), other 4 (omega arith), other 7 (omega arith), other 9 (omega arith)) refl
slots_apart (suc (suc n)) SecondType values c early none one = absurd (omega (arith, one refl))
slots_apart (suc n) ThirdType values c early none one =
    let other : (j : ℕ) → j ≢ 3 → get_or (with_value ThirdType c values).values j 0 ≡ get_or values.values j 0 =
    λ j apart. get_or-set_other values.values 3 j c 0 apart in
    rw (
      other 1 (omega arith),
      other 2 (omega arith),
      other 4 (omega arith),
      other 5 (omega arith),
      other 7 (omega arith),
      other 8 (omega arith),
      other 9 (omega arith),
      other 10 (omega arith),
    ) refl
slots_apart (suc n) FirstVid values c early none one = absurd (omega arith)
slots_apart (suc n) SecondVid values c early none one = absurd (omega arith)
slots_apart (suc n) ThirdVid values c early none one = absurd (omega arith)
slots_apart (suc n) FirstPriority values c early none one = absurd (omega arith)
slots_apart (suc n) SecondPriority values c early none one = absurd (omega arith)
slots_apart (suc n) FirstEligible values c early none one = absurd (omega arith)
slots_apart (suc n) SecondEligible values c early none one = absurd (omega arith)

-- of a length the tags with which frames leave don't depend, and of a type only where it is that of a tag
pub frozen_apart : (settings : TableSettings) (count : ℕ) (row : Row) (d : Option ℕ) (field : Field) (others : Values) (c : ℕ) → place_of field < 4
    → (place_of field ≡ 1 → (count ≡ 0) × (row.tags ≡ 0)) → (place_of field ≡ 2 → (count ≤ 1) × (row.tags ≤ 1))
    → frozen settings count row d (with_value field c others) ≡ frozen settings count row d others
frozen_apart settings count row d field others c early none one =
    let read : slots row.tags (with_value field c others) ≡ slots row.tags others =
    slots_apart row.tags field others c early (λ h. (none h).1) (λ h. (one h).1) in
    let looked : slots count (with_value field c others) ≡ slots count others =
    slots_apart count field others c early (λ h. (none h).0) (λ h. (one h).0) in
    ap
    (λ (tags : List TagFields). (additions_from row.retag settings tags d ++ left_of row.retag.remove tags)
    ++ drop row.tags (slots count (with_value field c others)))
    read
    ∙ ap (λ (tags : List TagFields). (additions_from row.retag settings (slots row.tags others) d ++ left_of row.retag.remove (slots row.tags others)) ++ drop row.tags tags)
    looked
