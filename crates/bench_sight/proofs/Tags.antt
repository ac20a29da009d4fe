-- The bytes of tags, compared tag by tag.
use Rattle.std.proofs.Common.{◌≡◌, ◌≢◌, ◌<◌, ℕ, suc, ◌+◌, Bool, List, [], ◌∷◌, ◌++◌, length, take, drop, refl, sym, ap, subst, ◌∙◌, arith, append_assoc, length-append}
use Rattle.std.specs.Prelude.{Decides, slice_index_or}
use Rattle.std.specs.Io.{StartsWith}
use Rattle.std.specs.List.{flat_map}
use Rattle.std.proofs.lemmas.List.{append-nil, take-append-drop, take_more}
use Rattle.std.proofs.lemmas.Grind.{flat_map-append}
use Rattle.std.proofs.Math.Seq.{drop-cons}
use Rattle.tag_view.specs.Tag.{TagFields, tag_bytes}
use Rattle.bench_sight.proofs.Prefixes.{behind_part, first_part, in_first_part, itself, shorter}

-- one more
pub tags_more : (tags : List TagFields) (i : ℕ) (tag : TagFields) (bytes rest behind : List ℕ) → i < length tags → tag ≡ slice_index_or tags i tag
    → bytes ≡ flat_map tag_bytes (take i tags) ++ rest → rest ≡ tag_bytes tag ++ behind
    → bytes ≡ flat_map tag_bytes (take (i + 1) tags) ++ behind
tags_more tags i tag bytes rest behind within is so_far next =
    let more : take (i + 1) tags ≡ take i tags ++ tag ∷ [] = take_more tags i tag within ∙ ap (λ t. take i tags ++ t ∷ []) (sym is) in
    let spelled : flat_map tag_bytes (take (i + 1) tags) ≡ flat_map tag_bytes (take i tags) ++ tag_bytes tag =
    ap (flat_map tag_bytes) more ∙ flat_map-append tag_bytes (take i tags) (tag ∷ []) ∙ ap (λ (b : List ℕ). flat_map tag_bytes (take i tags) ++ b) (append-nil (tag_bytes tag)) in
    so_far ∙ ap (λ (b : List ℕ). flat_map tag_bytes (take i tags) ++ b) next ∙ sym (append_assoc (flat_map tag_bytes (take i tags)) (tag_bytes tag) behind)
    ∙ ap (λ (b : List ℕ). b ++ behind) (sym spelled)

-- where a tag isn't there, the bytes are a front of the tags exactly where what is left is a front of that tag
pub last_tag : (tags : List TagFields) (i : ℕ) (tag : TagFields) (bytes rest : List ℕ) (r : Bool) → i < length tags → tag ≡ slice_index_or tags i tag
    → bytes ≡ flat_map tag_bytes (take i tags) ++ rest → ((behind : List ℕ) → rest ≢ tag_bytes tag ++ behind)
    → Decides r (StartsWith (tag_bytes tag) rest) → Decides r (StartsWith (flat_map tag_bytes tags) bytes)
last_tag tags i tag bytes rest r within is so_far none decides =
    let from : drop i tags ≡ tag ∷ drop (suc i) tags = drop-cons tags i tag within ∙ ap (λ t. t ∷ drop (suc i) tags) (sym is) in
    let all : flat_map tag_bytes tags ≡ flat_map tag_bytes (take i tags) ++ flat_map tag_bytes (drop i tags) =
    ap (flat_map tag_bytes) (sym (take-append-drop i tags)) ∙ flat_map-append tag_bytes (take i tags) (drop i tags) in
    let left : flat_map tag_bytes (drop i tags) ≡ tag_bytes tag ++ flat_map tag_bytes (drop (suc i) tags) = ap (flat_map tag_bytes) from in
    let here : Decides r (StartsWith (flat_map tag_bytes (drop i tags)) rest) = (
      λ yes. subst (λ (l : List ℕ). StartsWith l rest) (sym left) (in_first_part (tag_bytes tag) (flat_map tag_bytes (drop (suc i) tags)) rest (decides.0 yes)),
      λ begins. decides.1 (first_part (tag_bytes tag) (flat_map tag_bytes (drop (suc i) tags)) rest none (subst (λ (l : List ℕ). StartsWith l rest) left begins)),
    ) in
    subst (λ (l : List ℕ). Decides r (StartsWith l bytes)) (sym all)
    (behind_part (flat_map tag_bytes (take i tags)) (flat_map tag_bytes (drop i tags)) bytes rest r so_far here)

nothing : (rest : List ℕ) → length rest ≡ 0 → rest ≡ []
nothing [] none = refl
nothing (b ∷ rest) none = absurd (omega (arith, none))

-- behind all tags
pub all_tags : (spelled bytes rest : List ℕ) (r : Bool) → bytes ≡ spelled ++ rest → Decides r (length rest ≡ 0) → Decides r (StartsWith spelled bytes)
all_tags spelled bytes rest r is decides = (
  λ yes.
      let none : bytes ≡ spelled = is ∙ ap (λ (b : List ℕ). spelled ++ b) (nothing rest (decides.0 yes)) ∙ append-nil spelled in
      subst (λ (l : List ℕ). StartsWith spelled l) (sym none) (itself spelled),
  λ begins. decides.1 (omega (arith, shorter spelled bytes begins, ap (λ (l : List ℕ). length l) is, length-append spelled rest)),
)
