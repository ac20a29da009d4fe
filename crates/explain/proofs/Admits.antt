-- Which frames an entry admits: by the number of tags, what it asks of the outer and of the inner one, and the type behind them.
use Rattle.std.proofs.Common.{◌≡◌, ◌==◌, ◌≤◌, ℕ, Bool, true, false, not, ◌&&◌, List, [], ◌∷◌, Option, Some, None, length, arith, refl, ap, sym, ◌∙◌, if◌then◌else◌}
use Rattle.std.specs.Prelude.{is_none, option_map}
use Rattle.std.specs.Option.{option_or}
use Rattle.std.proofs.lemmas.Bool.{ne_eqb}
use Rattle.tag_view.specs.Tag.{TagFields}
use Rattle.vlan_rule.specs.declared.filter.EthertypeFilter.{EthertypeFilter}
use Rattle.vlan_rule.specs.declared.filter.TagFilter.{TagFilter}
use Rattle.vlan_rule.specs.declared.filter.Filter.{Filter}
use Rattle.vlan_rule.specs.declared.filter.Filter.TheVariants as filter
use Rattle.vlan_rule.specs.Meaning.{ethertype_of, filter_of}
use Rattle.vlan_rule.specs.Choice.{are_tags, has_priority, has_tpid, has_type, has_vid, is_tag, matches}
use Rattle.treatment.specs.Treatment.{inner_of}
use Rattle.explain.specs.declared.mismatch.TagField.{TagField}
use Rattle.explain.specs.declared.mismatch.TagField.TheVariants as field
use Rattle.explain.specs.declared.mismatch.Mismatch.TheVariants.{TagCount, Outer, Inner, Ethertype}
use Rattle.explain.specs.Mismatch.{inner_filter, inner_mismatch, mismatch, mismatch_by, outer_filter, outer_mismatch, tag_count, tag_mismatch, MatchesWithoutMismatch}

-- a test of the first tag, and of the last; a frame without tags passes it
abbrev pub on_outer : (TagFields → Bool) → List TagFields → Bool
on_outer p [] = true
on_outer p (tag ∷ rest) = p tag

abbrev pub on_inner : (TagFields → Bool) → List TagFields → Bool
on_inner p [] = true
on_inner p (tag ∷ rest) = p (inner_of (tag ∷ rest))

-- as many tags as are asked for, and both as is asked
abbrev pub admits : ℕ → Filter → List TagFields → Bool
admits input f tags =
    length tags == tag_count f && (on_outer (is_tag input (outer_filter f)) tags && on_inner (is_tag input (inner_filter f)) tags)

and_true : (b : Bool) → b ≡ (b && true)
and_true true = refl
and_true false = refl

-- three tags or more are more than any filter asks for
no_three : (a b c : TagFields) (rest : List TagFields) (n : ℕ) → n ≤ 2 → (length (a ∷ b ∷ c ∷ rest) == n) ≡ false
no_three a b c rest n few = ne_eqb (length (a ∷ b ∷ c ∷ rest)) n (λ same. absurd (omega arith))

pub are_tags_admits : (input : ℕ) (f : Filter) (tags : List TagFields) → are_tags input f tags ≡ admits input f tags
are_tags_admits input filter.NoTag [] = refl
are_tags_admits input filter.NoTag (a ∷ rest) = and_true (length (a ∷ rest) == 0)
are_tags_admits input filter.OneTagDefault [] = refl
are_tags_admits input filter.OneTagDefault (a ∷ rest) = and_true (length (a ∷ rest) == 1)
are_tags_admits input (filter.OneTag inner) [] = refl
are_tags_admits input (filter.OneTag inner) (a ∷ []) = refl
are_tags_admits input (filter.OneTag inner) (a ∷ b ∷ rest) =
    let two = ne_eqb (length (a ∷ b ∷ rest)) 1 (λ same. absurd (omega arith)) in rw two refl
are_tags_admits input filter.TwoTagDefault [] = refl
are_tags_admits input filter.TwoTagDefault (a ∷ rest) = and_true (length (a ∷ rest) == 2)
are_tags_admits input (filter.TwoTag outer inner) [] = refl
are_tags_admits input (filter.TwoTag outer inner) (a ∷ []) = refl
are_tags_admits input (filter.TwoTag outer inner) (a ∷ b ∷ []) = refl
are_tags_admits input (filter.TwoTag outer inner) (a ∷ b ∷ c ∷ rest) = rw (no_three a b c rest 2 (omega arith)) refl

-- ---- no mismatch

three : (a b c : Bool)
    → is_none (if not a then Some field.Priority else (if not b then Some field.Vid else (if not c then Some field.Tpid else None))) ≡ (a && (b && c))
three false b c = refl
three true false c = refl
three true true false = refl
three true true true = refl

tag_none : (input : ℕ) (f : TagFilter) (tag : TagFields) → is_none (tag_mismatch input f tag) ≡ is_tag input f tag
tag_none input f tag = three (has_priority f.priority tag) (has_vid f.vid tag) (has_tpid input f.tpid tag)

outer_none : (input : ℕ) (f : TagFilter) (tags : List TagFields) → is_none (outer_mismatch input f tags) ≡ on_outer (is_tag input f) tags
outer_none input f [] = refl
outer_none input f (tag ∷ rest) = tag_none input f tag

inner_none : (input : ℕ) (f : TagFilter) (tags : List TagFields) → is_none (inner_mismatch input f tags) ≡ on_inner (is_tag input f) tags
inner_none input f [] = refl
inner_none input f (tag ∷ rest) = tag_none input f (inner_of (tag ∷ rest))

all_none : (count : Bool) (outer inner : Option TagField) (type : Bool)
    → is_none (if not count then Some TagCount else option_or (option_map Outer outer) (option_or (option_map Inner inner) (if not type then Some Ethertype else None)))
    ≡ ((count && (is_none outer && is_none inner)) && type)
all_none false outer inner type = refl
all_none true (Some o) inner type = refl
all_none true None (Some i) type = refl
all_none true None None false = refl
all_none true None None true = refl

mismatch_none : (input : ℕ) (tags : List TagFields) (type : ℕ) (f : Filter) (e : EthertypeFilter)
    → is_none (mismatch_by input tags type f e) ≡ (are_tags input f tags && has_type e type)
mismatch_none input tags type f e =
    let count = length tags == tag_count f in
    let inner = inner_mismatch input (inner_filter f) tags in
    all_none count (outer_mismatch input (outer_filter f) tags) inner (has_type e type)
    ∙ ap (λ (b : Bool). (count && (b && is_none inner)) && has_type e type) (outer_none input (outer_filter f) tags)
    ∙ ap (λ (b : Bool). (count && (on_outer (is_tag input (outer_filter f)) tags && b)) && has_type e type) (inner_none input (inner_filter f) tags)
    ∙ ap (λ (b : Bool). b && has_type e type) (sym (are_tags_admits input f tags))

pub none_where_matches : (input : ℕ) (tags : List TagFields) (type : ℕ) (entry : List ℕ) → is_none (mismatch input tags type entry) ≡ matches input tags type entry
unfolding mismatch matches
none_where_matches input tags type entry = mismatch_none input tags type (filter_of entry) (ethertype_of entry)

pub matches_without_mismatch : MatchesWithoutMismatch
matches_without_mismatch = record { none = none_where_matches }
