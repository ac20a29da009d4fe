-- Lists of tags are the same where a comparison says so.
use Rattle.std.proofs.Common.{◌≡◌, ◌==◌, Bool, true, false, ◌&&◌, List, [], ◌∷◌, refl, ap, sym, ◌∙◌}
use Rattle.std.proofs.lemmas.Bool.{and_from, and_parts, eq-eqb, eqb-true, true≢false}
use Rattle.tag_view.specs.Tag.{TagFields}
use Rattle.tag_view.proofs.Tags.{same_fields}
use Rattle.frame_rows.specs.Sight.{same_flag, same_tag, same_tags}

flag_is : (one other : Bool) → same_flag one other ≡ true → one ≡ other
flag_is true true h = refl
flag_is true false h = absurd (true≢false (sym h))
flag_is false true h = absurd (true≢false (sym h))
flag_is false false h = refl

flag_self : (flag : Bool) → same_flag flag flag ≡ true
flag_self true = refl
flag_self false = refl

tag_is : (one other : TagFields) → same_tag one other ≡ true → one ≡ other
tag_is one other h =
    let all = and_parts (one.tpid == other.tpid && one.pcp == other.pcp) (same_flag one.dei other.dei && one.vid == other.vid) h in
    let first = and_parts (one.tpid == other.tpid) (one.pcp == other.pcp) all.0 in
    let last = and_parts (same_flag one.dei other.dei) (one.vid == other.vid) all.1 in
    same_fields other.tpid other.pcp other.vid one.tpid one.pcp one.vid other.dei one.dei (eqb-true one.tpid other.tpid first.0)
    (eqb-true one.pcp other.pcp first.1) (flag_is one.dei other.dei last.0) (eqb-true one.vid other.vid last.1)

tag_self : (tag : TagFields) → same_tag tag tag ≡ true
tag_self tag =
    and_from (tag.tpid == tag.tpid && tag.pcp == tag.pcp) (same_flag tag.dei tag.dei && tag.vid == tag.vid)
    (and_from (tag.tpid == tag.tpid) (tag.pcp == tag.pcp) (eq-eqb tag.tpid tag.tpid refl) (eq-eqb tag.pcp tag.pcp refl))
    (and_from (same_flag tag.dei tag.dei) (tag.vid == tag.vid) (flag_self tag.dei) (eq-eqb tag.vid tag.vid refl))

tags_self : (tags : List TagFields) → same_tags tags tags ≡ true
tags_self [] = refl
tags_self (tag ∷ rest) = and_from (same_tag tag tag) (same_tags rest rest) (tag_self tag) (tags_self rest)

pub tags_are : (one other : List TagFields) → same_tags one other ≡ true → one ≡ other
tags_are [] [] h = refl
tags_are [] (tag ∷ rest) h = absurd (true≢false (sym h))
tags_are (tag ∷ rest) [] h = absurd (true≢false (sym h))
tags_are (tag ∷ rest) (tag' ∷ rest') h =
    let parts = and_parts (same_tag tag tag') (same_tags rest rest') h in
    rw (tag_is tag tag' parts.0, tags_are rest rest' parts.1) refl

pub tags_match : (one other : List TagFields) → one ≡ other → same_tags one other ≡ true
tags_match one other is = ap (same_tags one) (sym is) ∙ tags_self one
