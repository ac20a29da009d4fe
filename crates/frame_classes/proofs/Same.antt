-- Tags that are compared one by one.
use Rattle.std.proofs.Common.{◌≡◌, Bool, true, false, ◌&&◌, List, [], ◌∷◌, refl, ap, suc, sym, length}
use Rattle.std.proofs.lemmas.Bool.{true≢false}
use Rattle.tag_view.specs.Tag.{TagFields}
use Rattle.frame_rows.specs.Sight.{same_tag, same_tags}

-- those that are the same are as many
pub same_length : (a b : List TagFields) → same_tags a b ≡ true → length a ≡ length b
same_length [] [] h = refl
same_length [] (y ∷ ys) h = absurd (true≢false (sym h))
same_length (x ∷ xs) [] h = absurd (true≢false (sym h))
same_length (x ∷ xs) (y ∷ ys) h = ap suc (same_length xs ys (and_right (same_tag x y) (same_tags xs ys) h))
  where
    and_right : (a b : Bool) → (a && b) ≡ true → b ≡ true
    and_right true b h = h
    and_right false b h = absurd (true≢false (sym h))

pub not_as_many : (a b : List TagFields) → (length a ≡ length b → ⊥) → false ≡ same_tags a b
not_as_many a b apart = by_case (same_tags a b) refl
  where
    by_case : (c : Bool) → same_tags a b ≡ c → false ≡ same_tags a b
    by_case true is = absurd (apart (same_length a b is))
    by_case false is = sym is
