-- Tags by their bytes, and what tells two lists of them apart.
use Rattle.std.proofs.Common.{◌≡◌, ◌==◌, ℕ, suc, Bool, true, false, not, ◌&&◌, List, [], ◌∷◌, ◌++◌, arith, refl, ap, sym, length, length-append, drop, ◌∙◌}
use Rattle.std.specs.Prelude.{All}
use Rattle.std.specs.List.{flat_map}
use Rattle.std.proofs.lemmas.Bool.{and_from, and_parts, eq-eqb, eqb-true, true≢false}
use Rattle.std.proofs.lemmas.List.Elements.{All-head, All-tail}
use Rattle.tag_view.specs.Tag.{IsInRange, TagFields, tag_bytes}
use Rattle.tag_view.specs.Frame.{tag_at}
use Rattle.tag_view.proofs.Tags.{same_fields, tag_read}
use Rattle.frame_rows.specs.Sight.{same_flag, same_tag, same_tags}

-- ---- by their bytes

-- bytes don't begin with a tag and go on as they began
no_more : (tag : TagFields) (tags : List TagFields) (rest : List ℕ) → rest ≡ flat_map tag_bytes (tag ∷ tags) ++ rest → ⊥
no_more tag tags rest same =
    let lengths : length rest ≡ suc (suc (suc (suc (length (flat_map tag_bytes tags ++ rest))))) = ap length same in
    let more = length-append (flat_map tag_bytes tags) rest in
    omega arith

-- before the same bytes, the same bytes are of the same tags
pub tags_by_bytes : (one other : List TagFields) (rest : List ℕ) → All IsInRange one → All IsInRange other
    → flat_map tag_bytes one ++ rest ≡ flat_map tag_bytes other ++ rest → one ≡ other
tags_by_bytes [] [] rest in_range in_range' same = refl
tags_by_bytes [] (tag ∷ other) rest in_range in_range' same = absurd (no_more tag other rest same)
tags_by_bytes (tag ∷ one) [] rest in_range in_range' same = absurd (no_more tag one rest (sym same))
tags_by_bytes (tag ∷ one) (tag' ∷ other) rest in_range in_range' same =
    let first : tag ≡ tag' =
    sym (tag_read tag (flat_map tag_bytes one ++ rest) (All-head IsInRange tag one in_range)) ∙ ap (tag_at 0) same
    ∙ tag_read tag' (flat_map tag_bytes other ++ rest) (All-head IsInRange tag' other in_range') in
    let others : one ≡ other =
    tags_by_bytes one other rest (All-tail IsInRange tag one in_range) (All-tail IsInRange tag' other in_range') (ap (drop 4) same) in
    rw (first, others) refl

-- ---- what tells them apart

-- a test is true where something doesn't hold, and false where it does
pub record Tells (apart : Bool) (P : Type 0) : Type 0 where
  pub same : apart ≡ false → P
  pub differs : apart ≡ true → P → ⊥

flag_is : (one other : Bool) → same_flag one other ≡ true → one ≡ other
flag_is true true h = refl
flag_is true false h = absurd (true≢false (sym h))
flag_is false true h = absurd (true≢false (sym h))
flag_is false false h = refl

flag_self : (flag : Bool) → same_flag flag flag ≡ true
flag_self true = refl
flag_self false = refl

tag_is : (one other : TagFields) → same_tag one other ≡ true → one ≡ other
tag_is one other h =
    let all = and_parts (one.tpid == other.tpid && one.pcp == other.pcp) (same_flag one.dei other.dei && one.vid == other.vid) h in
    let first = and_parts (one.tpid == other.tpid) (one.pcp == other.pcp) all.0 in
    let last = and_parts (same_flag one.dei other.dei) (one.vid == other.vid) all.1 in
    same_fields other.tpid other.pcp other.vid one.tpid one.pcp one.vid other.dei one.dei (eqb-true one.tpid other.tpid first.0)
    (eqb-true one.pcp other.pcp first.1) (flag_is one.dei other.dei last.0) (eqb-true one.vid other.vid last.1)

tag_self : (tag : TagFields) → same_tag tag tag ≡ true
tag_self tag =
    and_from (tag.tpid == tag.tpid && tag.pcp == tag.pcp) (same_flag tag.dei tag.dei && tag.vid == tag.vid)
    (and_from (tag.tpid == tag.tpid) (tag.pcp == tag.pcp) (eq-eqb tag.tpid tag.tpid refl) (eq-eqb tag.pcp tag.pcp refl))
    (and_from (same_flag tag.dei tag.dei) (tag.vid == tag.vid) (flag_self tag.dei) (eq-eqb tag.vid tag.vid refl))

tags_are : (one other : List TagFields) → same_tags one other ≡ true → one ≡ other
tags_are [] [] h = refl
tags_are [] (tag ∷ rest) h = absurd (true≢false (sym h))
tags_are (tag ∷ rest) [] h = absurd (true≢false (sym h))
tags_are (tag ∷ rest) (tag' ∷ rest') h =
    let parts = and_parts (same_tag tag tag') (same_tags rest rest') h in
    rw (tag_is tag tag' parts.0, tags_are rest rest' parts.1) refl

tags_self : (tags : List TagFields) → same_tags tags tags ≡ true
tags_self [] = refl
tags_self (tag ∷ rest) = and_from (same_tag tag tag) (same_tags rest rest) (tag_self tag) (tags_self rest)

pub tags_tell : (one other : List TagFields) → Tells (not (same_tags one other)) (one ≡ other)
tags_tell one other = record { same = λ h. tags_are one other (unnot (same_tags one other) h); differs = differs }
  where
    unnot : (b : Bool) → not b ≡ false → b ≡ true
    unnot true h = refl
    unnot false h = absurd (true≢false h)

    differs : not (same_tags one other) ≡ true → one ≡ other → ⊥
    differs h e =
        let same : same_tags one other ≡ true = ap (same_tags one) (sym e) ∙ tags_self one in
        true≢false (sym h ∙ ap not same)
