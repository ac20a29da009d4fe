-- Which rows of filters pass for the values of a frame.
use Rattle.std.proofs.Common.{◌≡◌, ℕ, zero, suc, ◌<◌, ◌==◌, Bool, true, false, not, ◌&&◌, [], ◌∷◌, arith, refl, ap, sym, nat_le, ◌∙◌}
use Rattle.std.specs.Prelude.{slice_index_or}
use Rattle.std.specs.List.{list_all}
use Rattle.tag_view.specs.Tag.{TagFields, customer_tpid, is_tag_type}
use Rattle.vlan_rule.specs.declared.filter.EthertypeFilter.{EthertypeFilter}
use Rattle.vlan_rule.specs.declared.filter.PriorityFilter.{PriorityFilter}
use Rattle.vlan_rule.specs.declared.filter.PriorityFilter.TheVariants as priority
use Rattle.vlan_rule.specs.declared.filter.VidFilter.{VidFilter}
use Rattle.vlan_rule.specs.declared.filter.VidFilter.TheVariants as vid
use Rattle.vlan_rule.specs.declared.filter.TpidFilter.{TpidFilter}
use Rattle.vlan_rule.specs.declared.filter.TpidFilter.TheVariants as tpid
use Rattle.vlan_rule.specs.declared.filter.TagFilter.{TagFilter}
use Rattle.vlan_rule.specs.declared.filter.Filter.{Filter}
use Rattle.vlan_rule.specs.declared.filter.Filter.TheVariants as filter
use Rattle.vlan_rule.specs.Choice.{are_tags, has_priority, has_tpid, has_type, has_vid, is_tag}
use Rattle.frame_rows.specs.declared.ask.Ask.TheVariants.{Any}
use Rattle.frame_rows.specs.declared.field.Field.TheVariants.{Length, FirstType, SecondType, ThirdType, FirstVid, SecondVid, FirstPriority, SecondPriority, FirstEligible, SecondEligible}
use Rattle.frame_rows.specs.declared.field.Values.{Values}
use Rattle.frame_rows.specs.Field.{fields, place_of, value_at}
use Rattle.frame_rows.specs.Ask.{admits, eligible_ask, is_tpid, priority_ask, vid_ask}
use Rattle.frame_rows.specs.Row.{asks_of}

-- ---- Booleans

pub and_true : (b : Bool) → (b && true) ≡ b
and_true true = refl
and_true false = refl

pub and_false : (b : Bool) → (b && false) ≡ false
and_false true = refl
and_false false = refl

-- of one tag: TPID, type, VID, priority and drop eligible indicator, in another order
shuffle_one : (t h v p d : Bool) → (t && (h && (v && (p && (d && true))))) ≡ ((p && (v && (t && d))) && h)
shuffle_one false h v p d = simp and_false
shuffle_one true false v p d = simp and_false
shuffle_one true true false p d = simp and_false
shuffle_one true true true false d = refl
shuffle_one true true true true false = refl
shuffle_one true true true true true = refl

-- of two tags
shuffle_two : (t u h v w p q d e : Bool)
    → (t && (u && (h && (v && (w && (p && (q && (d && (e && true)))))))))
    ≡ (((p && (v && (t && d))) && (q && (w && (u && e)))) && h)
shuffle_two false u h v w p q d e = simp and_false
shuffle_two true false h v w p q d e = simp and_false
shuffle_two true true false v w p q d e = simp and_false
shuffle_two true true true false w p q d e = simp and_false
shuffle_two true true true true false p q d e = simp and_false
shuffle_two true true true true true false q d e = refl
shuffle_two true true true true true true false d e = simp and_false
shuffle_two true true true true true true true false e = refl
shuffle_two true true true true true true true true false = refl
shuffle_two true true true true true true true true true = refl

-- ---- a tag by its fields

-- values are those of a tag
pub record IsTagOf (type vid priority eligible : ℕ) (tag : TagFields) : Type 0 where
  pub tpid_same : tag.tpid ≡ type
  pub vid_same : tag.vid ≡ vid
  pub priority_same : tag.pcp ≡ priority
  pub is_bit : eligible < 2
  pub eligible_same : tag.dei ≡ (eligible == 1)

not_one : (bit : ℕ) → bit < 2 → not (bit == 1) ≡ (bit == 0)
not_one zero h = refl
not_one (suc zero) h = refl
not_one (suc (suc more)) h = absurd (omega arith)

vid_is : (f : VidFilter) (tag : TagFields) (value : ℕ) → tag.vid ≡ value → has_vid f tag ≡ admits (vid_ask f) value
vid_is vid.Any tag value is = refl
vid_is (vid.Exactly v) tag value is = ap (λ (n : ℕ). n == v) is

priority_is : (f : PriorityFilter) (tag : TagFields) (value : ℕ) → tag.pcp ≡ value → has_priority f tag ≡ admits (priority_ask f) value
priority_is priority.Any tag value is = refl
priority_is (priority.Exactly p) tag value is = ap (λ (n : ℕ). n == p) is

tpid_is : (input : ℕ) (f : TpidFilter) (tag : TagFields) (type bit : ℕ) → tag.tpid ≡ type → bit < 2 → tag.dei ≡ (bit == 1)
    → has_tpid input f tag ≡ (is_tpid f input type && admits (eligible_ask f) bit)
tpid_is input tpid.Any tag type bit is h dei = refl
tpid_is input tpid.Standard tag type bit is h dei = ap (λ (n : ℕ). n == customer_tpid) is ∙ sym (and_true (type == customer_tpid))
tpid_is input tpid.Input tag type bit is h dei = ap (λ (n : ℕ). n == input) is ∙ sym (and_true (type == input))
tpid_is input tpid.InputNotEligible tag type bit is h dei =
    ap (λ (n : ℕ). (n == input) && not tag.dei) is ∙ ap (λ (b : Bool). (type == input) && not b) dei ∙ ap (λ (b : Bool). (type == input) && b) (not_one bit h)
tpid_is input tpid.InputEligible tag type bit is h dei =
    ap (λ (n : ℕ). (n == input) && tag.dei) is ∙ ap (λ (b : Bool). (type == input) && b) dei

tag_is : (input : ℕ) (f : TagFilter) (tag : TagFields) (type value priority bit : ℕ) → IsTagOf type value priority bit tag
    → is_tag input f tag
    ≡ (admits (priority_ask f.priority) priority && (admits (vid_ask f.vid) value && (is_tpid f.tpid input type && admits (eligible_ask f.tpid) bit)))
tag_is input f tag type value priority bit is =
    let p = priority_is f.priority tag priority is.priority_same in
    let v = vid_is f.vid tag value is.vid_same in
    let t = tpid_is input f.tpid tag type bit is.tpid_same is.is_bit is.eligible_same in
    rw (p, v, t) refl

-- ---- rows

-- what a filter asks is as the values are
abbrev pub filter_passes : Filter → EthertypeFilter → ℕ → Values → Bool
filter_passes f type input values =
    list_all (λ field. admits (slice_index_or (asks_of f type input) (place_of field) Any) (value_at field values)) fields

-- values of a frame without a tag, with one, and with two
pub record WithoutTag (input : ℕ) (values : Values) : Type 0 where
  pub least : nat_le 14 (value_at Length values) ≡ true
  pub most : nat_le (value_at Length values) 24 ≡ true
  pub first : is_tag_type input (value_at FirstType values) ≡ false

pub record WithOneTag (input : ℕ) (values : Values) (tag : TagFields) : Type 0 where
  pub least : nat_le 18 (value_at Length values) ≡ true
  pub most : nat_le (value_at Length values) 24 ≡ true
  pub first : is_tag_type input (value_at FirstType values) ≡ true
  pub second : is_tag_type input (value_at SecondType values) ≡ false
  pub is_tag : IsTagOf (value_at FirstType values) (value_at FirstVid values) (value_at FirstPriority values) (value_at FirstEligible values) tag

pub record WithTwoTags (input : ℕ) (values : Values) (outer inner : TagFields) : Type 0 where
  pub least : nat_le 22 (value_at Length values) ≡ true
  pub most : nat_le (value_at Length values) 24 ≡ true
  pub first : is_tag_type input (value_at FirstType values) ≡ true
  pub second : is_tag_type input (value_at SecondType values) ≡ true
  pub is_outer : IsTagOf (value_at FirstType values) (value_at FirstVid values) (value_at FirstPriority values) (value_at FirstEligible values) outer
  pub is_inner : IsTagOf (value_at SecondType values) (value_at SecondVid values) (value_at SecondPriority values) (value_at SecondEligible values) inner

pub passes_without : (input : ℕ) (values : Values) (f : Filter) (type : EthertypeFilter) → WithoutTag input values
    → filter_passes f type input values ≡ (are_tags input f [] && has_type type (value_at FirstType values))
passes_without input values filter.NoTag type is = rw (is.least, is.most, is.first) (and_true (has_type type (value_at FirstType values)))
passes_without input values filter.OneTagDefault type is = rw (is.first) (and_false _)
passes_without input values (filter.OneTag f) type is = rw (is.first) (and_false _)
passes_without input values filter.TwoTagDefault type is = rw (is.first) (and_false _)
passes_without input values (filter.TwoTag outer inner) type is = rw (is.first) (and_false _)

pub passes_with_one : (input : ℕ) (values : Values) (tag : TagFields) (f : Filter) (type : EthertypeFilter) → WithOneTag input values tag
    → filter_passes f type input values ≡ (are_tags input f (tag ∷ []) && has_type type (value_at SecondType values))
passes_with_one input values tag filter.NoTag type is = rw (is.first) (and_false _)
passes_with_one input values tag filter.OneTagDefault type is =
    rw (is.least, is.most, is.first, is.second) (and_true (has_type type (value_at SecondType values)))
passes_with_one input values tag (filter.OneTag f) type is =
    let tags = tag_is input f tag (value_at FirstType values) (value_at FirstVid values) (value_at FirstPriority values) (value_at FirstEligible values) is.is_tag in
    rw (is.least, is.most, is.first, is.second, tags)
    (shuffle_one (is_tpid f.tpid input (value_at FirstType values)) (has_type type (value_at SecondType values)) (admits (vid_ask f.vid) (value_at FirstVid values))
    (admits (priority_ask f.priority) (value_at FirstPriority values)) (admits (eligible_ask f.tpid) (value_at FirstEligible values)))
passes_with_one input values tag filter.TwoTagDefault type is = rw (is.first, is.second) (and_false _)
passes_with_one input values tag (filter.TwoTag outer inner) type is = rw (is.second) (simp and_false)

pub passes_with_two : (input : ℕ) (values : Values) (outer inner : TagFields) (f : Filter) (type : EthertypeFilter) → WithTwoTags input values outer inner
    → filter_passes f type input values ≡ (are_tags input f (outer ∷ inner ∷ []) && has_type type (value_at ThirdType values))
passes_with_two input values outer inner filter.NoTag type is = rw (is.first) (and_false _)
passes_with_two input values outer inner filter.OneTagDefault type is = rw (is.second) (simp and_false)
passes_with_two input values outer inner (filter.OneTag f) type is = rw (is.second) (simp and_false)
passes_with_two input values outer inner filter.TwoTagDefault type is =
    rw (is.least, is.most, is.first, is.second) (and_true (has_type type (value_at ThirdType values)))
passes_with_two input values outer inner (filter.TwoTag f g) type is =
    let first = tag_is input f outer (value_at FirstType values) (value_at FirstVid values) (value_at FirstPriority values) (value_at FirstEligible values) is.is_outer in
    let second = tag_is input g inner (value_at SecondType values) (value_at SecondVid values) (value_at SecondPriority values) (value_at SecondEligible values) is.is_inner in
    rw (is.least, is.most, is.first, is.second, first, second)
    (shuffle_two (is_tpid f.tpid input (value_at FirstType values)) (is_tpid g.tpid input (value_at SecondType values)) (has_type type (value_at ThirdType values))
    (admits (vid_ask f.vid) (value_at FirstVid values)) (admits (vid_ask g.vid) (value_at SecondVid values))
    (admits (priority_ask f.priority) (value_at FirstPriority values)) (admits (priority_ask g.priority) (value_at SecondPriority values))
    (admits (eligible_ask f.tpid) (value_at FirstEligible values)) (admits (eligible_ask g.tpid) (value_at SecondEligible values)))
