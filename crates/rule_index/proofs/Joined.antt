-- Masks joined for a frame.
use Rattle.std.proofs.Common.{◌≡◌, ◌≢◌, ◌==◌, ℕ, ◌+◌, ◌*◌, ◌/◌, ◌%◌, ◌<◌, ◌≤◌, Bool, true, false, ◌&&◌, ◌||◌, cond, List, [], ◌∷◌, length, map, get_or, refl, ap, ap₂, sym, ◌∙◌, arith, bit_or, bit_and, ◌⊎◌, inl, inr, subst}
use Rattle.std.proofs.lemmas.Bool.Decides.{eqb_tells}
use Rattle.std.proofs.lemmas.Nat.{div-mul-add, mod-mul-add}
use Rattle.std.proofs.Math.Bool.{and-true, and-false}
use Rattle.tag_view.specs.Tag.{TagFields}
use Rattle.vlan_rule.specs.Choice.{are_tags, has_priority, has_tpid, has_type, has_vid, is_tag}
use Rattle.vlan_rule.specs.declared.filter.VidFilter.{VidFilter}
use Rattle.vlan_rule.specs.declared.filter.VidFilter.TheVariants as vid
use Rattle.vlan_rule.specs.declared.filter.EthertypeFilter.{EthertypeFilter}
use Rattle.vlan_rule.specs.declared.filter.EthertypeFilter.TheVariants as ethertype
use Rattle.vlan_rule.specs.declared.filter.TagFilter.{TagFilter}
use Rattle.vlan_rule.specs.declared.filter.Filter.{Filter}
use Rattle.vlan_rule.specs.declared.filter.Filter.TheVariants as filter
use Rattle.rule_index.specs.declared.row.Row.{Row}
use Rattle.rule_index.specs.Masks.{mask_of}
use Rattle.rule_index.specs.Filters.{admits_code, admits_type, admits_vid, code_of, inner_in, outer_in, tags_in, type_class, type_key}
use Rattle.rule_index.specs.Codes.{AreCodes}
use Rattle.rule_index.specs.Kinds.{admits_kind, joined_kind, AreKinds, AreTags, AreTypes}
use Rattle.rule_index.specs.Vids.{mask_at, AreVids}
use Rattle.rule_index.specs.Order.{row_matches}
use Rattle.rule_index.proofs.MaskLaws.{mask-and, mask-map, mask-or, mask-same}
use Rattle.rule_index.proofs.Coding.{code-admits, code-below}

-- ---- one tag

vid-admits : (f : VidFilter) (tag : TagFields) → admits_vid tag.vid f ≡ has_vid f tag
vid-admits vid.Any tag = refl
vid-admits (vid.Exactly v) tag = refl

regroup : (a b c : Bool) → ((a && b) && c) ≡ (a && (c && b))
regroup true true c = sym (and-true c)
regroup true false c = sym (and-false c)
regroup false b c = refl

pub tag-mask : (codes class masks : List ℕ) (filters : List TagFilter) (input : ℕ) (tag : TagFields) → tag.pcp < 8 → tag.vid < 4096
    → AreCodes codes filters → AreVids class masks (map (λ f. f.vid) filters)
    → bit_and (get_or codes (code_of input tag) 0) (mask_at class masks tag.vid) ≡ mask_of (λ f. is_tag input f tag) filters
tag-mask codes class masks filters input tag small low of_codes of_vids =
    ap₂ bit_and
    (of_codes (code_of input tag) (code-below input tag small)
    ∙ mask-same (λ f. admits_code (code_of input tag) f) (λ f. has_priority f.priority tag && has_tpid input f.tpid tag) filters (λ f. code-admits input tag f small))
    (of_vids.admits.each tag.vid low ∙ mask-map (λ f. admits_vid tag.vid f) (λ (f : TagFilter). f.vid) filters
    ∙ mask-same (λ (f : TagFilter). admits_vid tag.vid f.vid) (λ f. has_vid f.vid tag) filters (λ f. vid-admits f.vid tag))
    ∙ mask-and (λ f. has_priority f.priority tag && has_tpid input f.tpid tag) (λ f. has_vid f.vid tag) filters
    ∙ mask-same (λ f. (has_priority f.priority tag && has_tpid input f.tpid tag) && has_vid f.vid tag) (λ f. is_tag input f tag) filters
    (λ f. regroup (has_priority f.priority tag) (has_tpid input f.tpid tag) (has_vid f.vid tag))

-- ---- the number of tags and the type

pub kind-mask : (tags types : List ℕ) (rows : List Row) (k : ℕ) → length tags ≡ 3 → length types ≡ 6 → k < 18 → AreTags tags rows → AreTypes types rows
    → joined_kind tags types k ≡ mask_of (λ row. admits_kind k row) rows
kind-mask tags types rows k three six h of_tags of_types =
    ap₂ bit_and (of_tags (k / 6) (omega arith))
    (ap₂ bit_or (of_types 0 (omega arith)) (of_types (k % 6) (omega arith)) ∙ mask-or (λ (row : Row). type_key row.ethertype == 0) (λ (row : Row). type_key row.ethertype == k % 6) rows)
    ∙ mask-and (λ (row : Row). tags_in row.filter == k / 6) (λ (row : Row). admits_type (k % 6) row.ethertype) rows

IsAdmitted : ℕ → EthertypeFilter → Type 0
IsAdmitted type e = admits_type (type_class type) e ≡ has_type e type

at_0800 : (e : EthertypeFilter) → IsAdmitted 0x0800 e
unfolding IsAdmitted
at_0800 ethertype.Any = refl
at_0800 ethertype.Ipv4 = refl
at_0800 ethertype.Pppoe = refl
at_0800 ethertype.Arp = refl
at_0800 ethertype.Ipv6 = refl
at_0800 ethertype.Eapol = refl

at_8863 : (e : EthertypeFilter) → IsAdmitted 0x8863 e
unfolding IsAdmitted
at_8863 ethertype.Any = refl
at_8863 ethertype.Ipv4 = refl
at_8863 ethertype.Pppoe = refl
at_8863 ethertype.Arp = refl
at_8863 ethertype.Ipv6 = refl
at_8863 ethertype.Eapol = refl

at_8864 : (e : EthertypeFilter) → IsAdmitted 0x8864 e
unfolding IsAdmitted
at_8864 ethertype.Any = refl
at_8864 ethertype.Ipv4 = refl
at_8864 ethertype.Pppoe = refl
at_8864 ethertype.Arp = refl
at_8864 ethertype.Ipv6 = refl
at_8864 ethertype.Eapol = refl

at_0806 : (e : EthertypeFilter) → IsAdmitted 0x0806 e
unfolding IsAdmitted
at_0806 ethertype.Any = refl
at_0806 ethertype.Ipv4 = refl
at_0806 ethertype.Pppoe = refl
at_0806 ethertype.Arp = refl
at_0806 ethertype.Ipv6 = refl
at_0806 ethertype.Eapol = refl

at_86dd : (e : EthertypeFilter) → IsAdmitted 0x86DD e
unfolding IsAdmitted
at_86dd ethertype.Any = refl
at_86dd ethertype.Ipv4 = refl
at_86dd ethertype.Pppoe = refl
at_86dd ethertype.Arp = refl
at_86dd ethertype.Ipv6 = refl
at_86dd ethertype.Eapol = refl

at_888e : (e : EthertypeFilter) → IsAdmitted 0x888E e
unfolding IsAdmitted
at_888e ethertype.Any = refl
at_888e ethertype.Ipv4 = refl
at_888e ethertype.Pppoe = refl
at_888e ethertype.Arp = refl
at_888e ethertype.Ipv6 = refl
at_888e ethertype.Eapol = refl

none_of : (type : ℕ) (e : EthertypeFilter)
    → (type == 0x0800) ≡ false → (type == 0x8863) ≡ false → (type == 0x8864) ≡ false → (type == 0x0806) ≡ false → (type == 0x86DD) ≡ false → (type == 0x888E) ≡ false
    → IsAdmitted type e
unfolding IsAdmitted
none_of type ethertype.Any a b c d f g = refl
none_of type ethertype.Ipv4 a b c d f g = rw (a, b, c, d, f, g) refl
none_of type ethertype.Pppoe a b c d f g = rw (a, b, c, d, f, g) refl
none_of type ethertype.Arp a b c d f g = rw (a, b, c, d, f, g) refl
none_of type ethertype.Ipv6 a b c d f g = rw (a, b, c, d, f, g) refl
none_of type ethertype.Eapol a b c d f g = rw (a, b, c, d, f, g) refl

-- a type that is one of the named ones, or none of them
IsTold : ℕ → ℕ → Type 0
IsTold a b = ((a == b) ≡ true × (a ≡ b)) ⊎ ((a == b) ≡ false × (a ≢ b))

by_cases : (type : ℕ) (e : EthertypeFilter) → IsTold type 0x0800 → IsTold type 0x8863 → IsTold type 0x8864 → IsTold type 0x0806 → IsTold type 0x86DD → IsTold type 0x888E
    → IsAdmitted type e
unfolding IsTold
by_cases type e (inl a) b c d f g = subst (λ n. IsAdmitted n e) (sym a.1) (at_0800 e)
by_cases type e (inr a) (inl b) c d f g = subst (λ n. IsAdmitted n e) (sym b.1) (at_8863 e)
by_cases type e (inr a) (inr b) (inl c) d f g = subst (λ n. IsAdmitted n e) (sym c.1) (at_8864 e)
by_cases type e (inr a) (inr b) (inr c) (inl d) f g = subst (λ n. IsAdmitted n e) (sym d.1) (at_0806 e)
by_cases type e (inr a) (inr b) (inr c) (inr d) (inl f) g = subst (λ n. IsAdmitted n e) (sym f.1) (at_86dd e)
by_cases type e (inr a) (inr b) (inr c) (inr d) (inr f) (inl g) = subst (λ n. IsAdmitted n e) (sym g.1) (at_888e e)
by_cases type e (inr a) (inr b) (inr c) (inr d) (inr f) (inr g) = none_of type e a.0 b.0 c.0 d.0 f.0 g.0

type-admits : (e : EthertypeFilter) (type : ℕ) → admits_type (type_class type) e ≡ has_type e type
unfolding IsTold IsAdmitted
type-admits e type = by_cases type e (eqb_tells type 0x0800) (eqb_tells type 0x8863) (eqb_tells type 0x8864) (eqb_tells type 0x0806) (eqb_tells type 0x86DD) (eqb_tells type 0x888E)

pub class-below : (type : ℕ) → type_class type < 6
class-below type = five (type == 0x0800) (type == 0x8863 || type == 0x8864) (type == 0x0806) (type == 0x86DD) (type == 0x888E)
  where
    five : (a b c d e : Bool) → cond a 1 (cond b 2 (cond c 3 (cond d 4 (cond e 5 0)))) < 6
    five true b c d e = omega arith
    five false true c d e = omega arith
    five false false true d e = omega arith
    five false false false true e = omega arith
    five false false false false true = omega arith
    five false false false false false = omega arith

pub tags-below : (f : Filter) → tags_in f < 3
tags-below filter.NoTag = omega arith
tags-below filter.OneTagDefault = omega arith
tags-below (filter.OneTag inner) = omega arith
tags-below filter.TwoTagDefault = omega arith
tags-below (filter.TwoTag outer inner) = omega arith

pub types-below : (e : EthertypeFilter) → type_key e < 6
types-below ethertype.Any = omega arith
types-below ethertype.Ipv4 = omega arith
types-below ethertype.Pppoe = omega arith
types-below ethertype.Arp = omega arith
types-below ethertype.Ipv6 = omega arith
types-below ethertype.Eapol = omega arith

-- the mask at the place of a number of tags and a class
pub kind-at : (joined : List ℕ) (rows : List Row) (n type class : ℕ) → n ≤ 2 → AreKinds joined rows → class ≡ type_class type
    → get_or joined (n * 6 + class) 0 ≡ mask_of (λ row. tags_in row.filter == n && has_type row.ethertype type) rows
kind-at joined rows n type class few of_kinds is_class =
    let k = n * 6 + type_class type in
    let of_tags : k / 6 ≡ n = div-mul-add n 6 (type_class type) (class-below type) in
    let of_class : k % 6 ≡ type_class type = mod-mul-add n 6 (type_class type) (class-below type) in
    ap (λ x. get_or joined (n * 6 + x) 0) is_class ∙ of_kinds k (omega (arith, class-below type))
    ∙ mask-same (λ row. admits_kind k row) (λ row. tags_in row.filter == n && has_type row.ethertype type) rows
    (λ row. ap₂ (λ x y. tags_in row.filter == x && admits_type y row.ethertype) of_tags of_class
    ∙ ap (λ x. tags_in row.filter == n && x) (type-admits row.ethertype type))

-- ---- a frame: of the kinds with as many tags only the filters of these tags count

of-no-tag : (input : ℕ) (t : Bool) (f : Filter) → (tags_in f == 0 && t) ≡ (are_tags input f [] && t)
of-no-tag input t filter.NoTag = refl
of-no-tag input t filter.OneTagDefault = refl
of-no-tag input t (filter.OneTag inner) = refl
of-no-tag input t filter.TwoTagDefault = refl
of-no-tag input t (filter.TwoTag outer inner) = refl

of-one-tag : (input : ℕ) (b : TagFields) (t : Bool) (f : Filter)
    → ((tags_in f == 1 && t) && is_tag input (inner_in f) b) ≡ (are_tags input f (b ∷ []) && t)
of-one-tag input b true filter.NoTag = refl
of-one-tag input b true filter.OneTagDefault = refl
of-one-tag input b true (filter.OneTag inner) = sym (and-true (is_tag input inner b))
of-one-tag input b true filter.TwoTagDefault = refl
of-one-tag input b true (filter.TwoTag outer inner) = refl
of-one-tag input b false f = rw (and-false (tags_in f == 1), and-false (are_tags input f (b ∷ []))) refl

of-two-tags : (input : ℕ) (a b : TagFields) (t : Bool) (f : Filter)
    → (((tags_in f == 2 && t) && is_tag input (outer_in f) a) && is_tag input (inner_in f) b) ≡ (are_tags input f (a ∷ b ∷ []) && t)
of-two-tags input a b true filter.NoTag = refl
of-two-tags input a b true filter.OneTagDefault = refl
of-two-tags input a b true (filter.OneTag inner) = refl
of-two-tags input a b true filter.TwoTagDefault = refl
of-two-tags input a b true (filter.TwoTag outer inner) = sym (and-true (is_tag input outer a && is_tag input inner b))
of-two-tags input a b false f = rw (and-false (tags_in f == 2), and-false (are_tags input f (a ∷ b ∷ []))) refl

-- ---- the masks of a frame joined

pub no-tag-mask : (kind : ℕ) (rows : List Row) (input type : ℕ)
    → kind ≡ mask_of (λ row. tags_in row.filter == 0 && has_type row.ethertype type) rows
    → kind ≡ mask_of (λ row. row_matches input [] type row) rows
no-tag-mask kind rows input type of_kind =
    of_kind
    ∙ mask-same (λ (row : Row). tags_in row.filter == 0 && has_type row.ethertype type) (λ row. row_matches input [] type row) rows
    (λ row. of-no-tag input (has_type row.ethertype type) row.filter)

pub one-tag-mask : (kind inner : ℕ) (rows : List Row) (input type : ℕ) (b : TagFields)
    → kind ≡ mask_of (λ row. tags_in row.filter == 1 && has_type row.ethertype type) rows
    → inner ≡ mask_of (λ f. is_tag input f b) (map (λ (row : Row). inner_in row.filter) rows)
    → bit_and kind inner ≡ mask_of (λ row. row_matches input (b ∷ []) type row) rows
one-tag-mask kind inner rows input type b of_kind of_inner =
    ap₂ bit_and of_kind (of_inner ∙ mask-map (λ f. is_tag input f b) (λ (row : Row). inner_in row.filter) rows)
    ∙ mask-and (λ (row : Row). tags_in row.filter == 1 && has_type row.ethertype type) (λ (row : Row). is_tag input (inner_in row.filter) b) rows
    ∙ mask-same (λ (row : Row). (tags_in row.filter == 1 && has_type row.ethertype type) && is_tag input (inner_in row.filter) b)
    (λ row. row_matches input (b ∷ []) type row) rows (λ row. of-one-tag input b (has_type row.ethertype type) row.filter)

pub two-tag-mask : (kind outer inner : ℕ) (rows : List Row) (input type : ℕ) (a b : TagFields)
    → kind ≡ mask_of (λ row. tags_in row.filter == 2 && has_type row.ethertype type) rows
    → outer ≡ mask_of (λ f. is_tag input f a) (map (λ (row : Row). outer_in row.filter) rows)
    → inner ≡ mask_of (λ f. is_tag input f b) (map (λ (row : Row). inner_in row.filter) rows)
    → bit_and (bit_and kind outer) inner ≡ mask_of (λ row. row_matches input (a ∷ b ∷ []) type row) rows
two-tag-mask kind outer inner rows input type a b of_kind of_outer of_inner =
    ap₂ bit_and
    (ap₂ bit_and of_kind (of_outer ∙ mask-map (λ f. is_tag input f a) (λ (row : Row). outer_in row.filter) rows)
    ∙ mask-and (λ (row : Row). tags_in row.filter == 2 && has_type row.ethertype type) (λ (row : Row). is_tag input (outer_in row.filter) a) rows)
    (of_inner ∙ mask-map (λ f. is_tag input f b) (λ (row : Row). inner_in row.filter) rows)
    ∙ mask-and (λ (row : Row). (tags_in row.filter == 2 && has_type row.ethertype type) && is_tag input (outer_in row.filter) a)
    (λ (row : Row). is_tag input (inner_in row.filter) b) rows
    ∙ mask-same (λ (row : Row). ((tags_in row.filter == 2 && has_type row.ethertype type) && is_tag input (outer_in row.filter) a) && is_tag input (inner_in row.filter) b)
    (λ row. row_matches input (a ∷ b ∷ []) type row) rows (λ row. of-two-tags input a b (has_type row.ethertype type) row.filter)
