-- Received tags that a frame keeps.
use Rattle.std.proofs.Common.{◌≡◌, ℕ, ◌+◌, ◌<◌, ◌≤◌, List, [], ◌∷◌, length, drop, refl}
use Rattle.std.proofs.lemmas.List.{drop_all, drop_more}
use Rattle.std.specs.Prelude.{slice_index_or}
use Rattle.tag_view.specs.Tag.{TagFields}
use Rattle.explain.specs.declared.outgoing.TagOrigin.TheVariants.{Received}
use Rattle.explain.specs.Outgoing.{kept_from}

-- the tag at a place, and those behind it
pub kept_more : (tags : List TagFields) (i : ℕ) (tag : TagFields) → i < length tags → tag ≡ slice_index_or tags i tag
    → kept_from i (drop i tags) ≡ record { tag = tag; origin = Received i } ∷ kept_from (i + 1) (drop (i + 1) tags)
kept_more tags i tag within is = rw (drop_more tags i tag within, ← is) refl

-- behind the last
pub kept_end : (tags : List TagFields) (i : ℕ) → length tags ≤ i → kept_from i (drop i tags) ≡ []
kept_end tags i past = rw (drop_all i tags past) refl
