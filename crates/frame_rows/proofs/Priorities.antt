-- The priority of a frame, by its source.
use Rattle.std.proofs.Common.{◌≡◌, ℕ, zero, suc, ◌%◌, ◌^◌, ◌==◌, Bool, true, false, List, [], ◌∷◌, ◌++◌, Option, Some, None, arith, refl, sym, length, min}
use Rattle.std.proofs.lemmas.Bool.{le-leb}
use Rattle.tag_view.specs.Tag.{TagFields}
use Rattle.vlan_rule.specs.declared.settings.TableSettings.{TableSettings}
use Rattle.vlan_rule.specs.declared.treatment.PrioritySource.{PrioritySource}
use Rattle.vlan_rule.specs.declared.treatment.PrioritySource.TheVariants as from
use Rattle.vlan_rule.specs.declared.treatment.AddedTag.{AddedTag}
use Rattle.vlan_rule.specs.declared.treatment.Retag.{Retag}
use Rattle.treatment.specs.Treatment.{additions_from, left_of, priority_from}
use Rattle.pmapper.specs.Mapper.{Unmarked, priority_of}
use Rattle.frame_rows.specs.declared.field.Field.TheVariants.{FirstPriority, SecondPriority}
use Rattle.frame_rows.specs.declared.field.Values.{Values}
use Rattle.frame_rows.specs.Field.{value_at}
use Rattle.frame_rows.specs.Source.{added_source, dscp_behind, kept_source, left_source, priority_by, treated_source, unmarked_source}

-- ---- what values say of a frame

-- the priorities of tags are those in the fields
abbrev pub TagsAre : List TagFields → Values → Type 0
TagsAre [] values = Unit {0}
TagsAre (first ∷ []) values = value_at FirstPriority values % 2 ^ 3 ≡ first.pcp
TagsAre (first ∷ second ∷ []) values = (value_at FirstPriority values % 2 ^ 3 ≡ first.pcp) × (value_at SecondPriority values % 2 ^ 3 ≡ second.pcp)
TagsAre (first ∷ second ∷ third ∷ rest) values = ⊥

-- a frame has these tags, and this DSCP behind them, if it has one
pub record Describes (values : Values) (tags : List TagFields) (dscp : Option ℕ) : Type 0 where
  pub tags_are : TagsAre tags values
  pub dscp_is : dscp_behind (length tags) values ≡ dscp

-- ---- frames that leave without a tag

unmarked_is : (unmarked : Unmarked) (values : Values) (tags : ℕ) (dscp : Option ℕ) → dscp_behind tags values ≡ dscp
    → priority_of unmarked [] dscp ≡ priority_by (unmarked_source unmarked tags) values
unfolding priority_of
unmarked_is unmarked values tags None is = by_option (unmarked.option == 0) refl
  where
    by_option : (b : Bool) → (unmarked.option == 0) ≡ b → priority_of unmarked [] None ≡ priority_by (unmarked_source unmarked tags) values
    by_option true option = rw (option, is) refl
    by_option false option = rw option refl
unmarked_is unmarked values tags (Some dscp) is = by_option (unmarked.option == 0) refl
  where
    by_option : (b : Bool) → (unmarked.option == 0) ≡ b → priority_of unmarked [] (Some dscp) ≡ priority_by (unmarked_source unmarked tags) values
    by_option true option = rw (option, is) refl
    by_option false option = rw option refl

-- ---- frames that leave with an added tag

added_is : (source : PrioritySource) (settings : TableSettings) (values : Values) (tags : List TagFields) (dscp : Option ℕ) → Describes values tags dscp
    → priority_from source settings tags dscp ≡ priority_by (added_source source settings (length tags)) values
added_is (from.Fixed priority) settings values tags dscp d = refl
added_is from.Inner settings values [] dscp d = refl
added_is from.Inner settings values (first ∷ []) dscp d = sym d.tags_are
added_is from.Inner settings values (first ∷ second ∷ []) dscp d = sym d.tags_are.1
added_is from.Inner settings values (first ∷ second ∷ third ∷ rest) dscp d = absurd d.tags_are
added_is from.Outer settings values [] dscp d = refl
added_is from.Outer settings values (first ∷ []) dscp d = sym d.tags_are
added_is from.Outer settings values (first ∷ second ∷ []) dscp d = sym d.tags_are.0
added_is from.Outer settings values (first ∷ second ∷ third ∷ rest) dscp d = absurd d.tags_are
added_is from.Dscp settings values tags None d = rw d.dscp_is refl
added_is from.Dscp settings values tags (Some dscp) d = rw d.dscp_is refl

-- ---- frames that leave with what is left of their tags

left_is : (remove : ℕ) (unmarked : Unmarked) (values : Values) (tags : List TagFields) (dscp : Option ℕ) → Describes values tags dscp
    → priority_of unmarked (left_of remove tags) dscp ≡ priority_by (left_source remove unmarked (length tags)) values
unfolding priority_of
left_is remove unmarked values [] dscp d =
    let none : min remove 0 ≡ 0 = omega arith in
    let all = le-leb 0 remove (omega arith) in
    rw (none, all) (unmarked_is unmarked values 0 dscp d.dscp_is)
left_is zero unmarked values (first ∷ []) dscp d = sym d.tags_are
left_is (suc more) unmarked values (first ∷ []) dscp d =
    let gone : min (suc more) 1 ≡ 1 = omega arith in
    let all = le-leb 1 (suc more) (omega arith) in
    rw (gone, all) (unmarked_is unmarked values 1 dscp d.dscp_is)
left_is zero unmarked values (first ∷ second ∷ []) dscp d = sym d.tags_are.0
left_is (suc zero) unmarked values (first ∷ second ∷ []) dscp d = sym d.tags_are.1
left_is (suc (suc more)) unmarked values (first ∷ second ∷ []) dscp d =
    let gone : min (suc (suc more)) 2 ≡ 2 = omega arith in
    let all = le-leb 2 (suc (suc more)) (omega arith) in
    rw (gone, all) (unmarked_is unmarked values 2 dscp d.dscp_is)
left_is remove unmarked values (first ∷ second ∷ third ∷ rest) dscp d = absurd d.tags_are

-- ---- frames that leave by a treatment

pub treated_is : (retag : Retag) (settings : TableSettings) (unmarked : Unmarked) (values : Values) (tags : List TagFields) (dscp : Option ℕ)
    → Describes values tags dscp
    → priority_of unmarked (additions_from retag settings tags dscp ++ left_of retag.remove tags) dscp
    ≡ priority_by (treated_source retag settings unmarked (length tags)) values
unfolding priority_of
treated_is retag settings unmarked values tags dscp d = by_added retag.outer retag.inner refl refl
  where
    by_added : (outer inner : Option AddedTag) → retag.outer ≡ outer → retag.inner ≡ inner
        → priority_of unmarked (additions_from retag settings tags dscp ++ left_of retag.remove tags) dscp
        ≡ priority_by (treated_source retag settings unmarked (length tags)) values
    by_added (Some added) inner p q = rw p (added_is added.priority settings values tags dscp d)
    by_added None (Some added) p q = rw (p, q) (added_is added.priority settings values tags dscp d)
    by_added None None p q = rw (p, q) (left_is retag.remove unmarked values tags dscp d)

-- frames that leave as they came
pub kept_is : (unmarked : Unmarked) (values : Values) (tags : List TagFields) (dscp : Option ℕ) → Describes values tags dscp
    → priority_of unmarked tags dscp ≡ priority_by (kept_source unmarked (length tags)) values
unfolding priority_of
kept_is unmarked values [] dscp d = unmarked_is unmarked values 0 dscp d.dscp_is
kept_is unmarked values (first ∷ []) dscp d = sym d.tags_are
kept_is unmarked values (first ∷ second ∷ []) dscp d = sym d.tags_are.0
kept_is unmarked values (first ∷ second ∷ third ∷ rest) dscp d = absurd d.tags_are
