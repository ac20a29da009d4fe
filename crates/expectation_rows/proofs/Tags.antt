-- What the rows of a filter ask of types and tags.
use Rattle.std.proofs.Common.{◌≡◌, ℕ, zero, suc, ◌<◌, ◌==◌, Bool, true, false, not, ◌&&◌, Option, Some, None, arith, refl, ap, sym, ◌∙◌}
use Rattle.std.proofs.lemmas.Bool.{and_from, and_parts, eqb-true, not-true}
use Rattle.tag_view.specs.Tag.{TagFields, is_tag_type}
use Rattle.vlan_rule.specs.declared.filter.PriorityFilter.{PriorityFilter}
use Rattle.vlan_rule.specs.declared.filter.PriorityFilter.TheVariants as priority
use Rattle.vlan_rule.specs.declared.filter.VidFilter.{VidFilter}
use Rattle.vlan_rule.specs.declared.filter.VidFilter.TheVariants as vid
use Rattle.vlan_rule.specs.Choice.{has_priority, has_type, has_vid}
use Rattle.frame_rows.specs.Ask.{admits, priority_ask, vid_ask}
use Rattle.frame_rows.proofs.Matching.{IsTagOf}
use Rattle.frame_expectation.specs.declared.filter.TagCondition.{TagCondition}
use Rattle.frame_expectation.specs.declared.filter.TypeCondition.{TypeCondition}
use Rattle.frame_expectation.specs.declared.filter.TypeCondition.TheVariants as type
use Rattle.frame_expectation.specs.Filter.{is_eligible, is_number, is_tag, is_type}
use Rattle.expectation_rows.specs.Rows.{eligible_ask, may_stand, third_ask, type_ask}

-- ---- types

-- the type behind fewer than two tags is as the condition asks
pub type_asked : (input value : ℕ) (condition : TypeCondition) → is_tag_type input value ≡ false
    → admits (type_ask input condition) value ≡ is_type condition value
type_asked input value (type.Class class) is = rw is refl
type_asked input value (type.Exactly only) is = refl

pub third_asked : (value : ℕ) (condition : TypeCondition) → admits (third_ask condition) value ≡ is_type condition value
third_asked value (type.Class class) = refl
third_asked value (type.Exactly only) = refl

-- what is offered asks for a type that begins no tag
pub begins_none : (input value : ℕ) (condition : TypeCondition) → may_stand input condition ≡ true → admits (type_ask input condition) value ≡ true
    → is_tag_type input value ≡ false
begins_none input value (type.Class class) may is = not-true (is_tag_type input value) (and_parts (not (is_tag_type input value)) (has_type class value) is).0
begins_none input value (type.Exactly only) may is =
    ap (is_tag_type input) (eqb-true value only is) ∙ not-true (is_tag_type input only) may

-- and a type that begins none is offered
pub stands : (input value : ℕ) (condition : TypeCondition) → is_tag_type input value ≡ false → is_type condition value ≡ true
    → may_stand input condition ≡ true
stands input value (type.Class class) none is = refl
stands input value (type.Exactly only) none is =
    let only_none : is_tag_type input only ≡ false = ap (is_tag_type input) (sym (eqb-true value only is)) ∙ none in
    rw only_none refl

-- ---- fields of a tag

not_one : (bit : ℕ) → bit < 2 → (bit == 0) ≡ not (bit == 1)
not_one zero h = refl
not_one (suc zero) h = refl
not_one (suc (suc more)) h = absurd (omega arith)

eligible_is : (eligible : Option Bool) (bit : ℕ) → bit < 2 → admits (eligible_ask eligible) bit ≡ is_eligible eligible (bit == 1)
eligible_is None bit h = refl
eligible_is (Some true) bit h = refl
eligible_is (Some false) bit h = not_one bit h

vid_is : (f : VidFilter) (tag : TagFields) (value : ℕ) → tag.vid ≡ value → admits (vid_ask f) value ≡ has_vid f tag
vid_is vid.Any tag value is = refl
vid_is (vid.Exactly v) tag value is = ap (λ (n : ℕ). n == v) (sym is)

priority_is : (f : PriorityFilter) (tag : TagFields) (value : ℕ) → tag.pcp ≡ value → admits (priority_ask f) value ≡ has_priority f tag
priority_is priority.Any tag value is = refl
priority_is (priority.Exactly p) tag value is = ap (λ (n : ℕ). n == p) (sym is)

-- what a row asks of the fields of a tag, beside the TPID
pub record IsAsked (condition : TagCondition) (value priority bit : ℕ) : Type 0 where
  pub vid_asked : admits (vid_ask condition.vid) value ≡ true
  pub priority_asked : admits (priority_ask condition.priority) priority ≡ true
  pub eligible_asked : admits (eligible_ask condition.eligible) bit ≡ true

-- a tag with these fields is as the condition asks
pub tag_is : (condition : TagCondition) (tag : TagFields) (type value priority bit : ℕ) → IsTagOf type value priority bit tag
    → is_number condition.tpid type ≡ true → IsAsked condition value priority bit → is_tag condition tag ≡ true
tag_is condition tag type value priority bit is number asked =
    let p : has_priority condition.priority tag ≡ true = sym (priority_is condition.priority tag priority is.priority_same) ∙ asked.priority_asked in
    let e : is_eligible condition.eligible tag.dei ≡ true =
    ap (is_eligible condition.eligible) is.eligible_same ∙ sym (eligible_is condition.eligible bit is.is_bit) ∙ asked.eligible_asked in
    let v : has_vid condition.vid tag ≡ true = sym (vid_is condition.vid tag value is.vid_same) ∙ asked.vid_asked in
    let n : is_number condition.tpid tag.tpid ≡ true = ap (is_number condition.tpid) is.tpid_same ∙ number in
    rw (p, e, v, n) refl

-- and one that is so has fields that are asked for
pub record HasAsked (condition : TagCondition) (type value priority bit : ℕ) : Type 0 where
  pub number : is_number condition.tpid type ≡ true
  pub fields : IsAsked condition value priority bit

pub tag_has : (condition : TagCondition) (tag : TagFields) (type value priority bit : ℕ) → IsTagOf type value priority bit tag
    → is_tag condition tag ≡ true → HasAsked condition type value priority bit
tag_has condition tag type value priority bit is h =
    let first = and_parts (has_priority condition.priority tag) _ h in
    let second = and_parts (is_eligible condition.eligible tag.dei) _ first.1 in
    let third = and_parts (has_vid condition.vid tag) (is_number condition.tpid tag.tpid) second.1 in
    record {
      number = ap (is_number condition.tpid) (sym is.tpid_same) ∙ third.1;
      fields = record {
        vid_asked = vid_is condition.vid tag value is.vid_same ∙ third.0;
        priority_asked = priority_is condition.priority tag priority is.priority_same ∙ first.0;
        eligible_asked =
            eligible_is condition.eligible bit is.is_bit ∙ ap (is_eligible condition.eligible) (sym is.eligible_same) ∙ second.0;
      };
    }
