-- A frame's clone.
use Rattle.std.proofs.Common.{◌≡◌, ℕ, List, Bor, ap, length, ◌∙◌}
use Rattle.std.specs.List.{AllZip}
use Rattle.std.proofs.lemmas.List.Elements.{same_from_all_zip}
use Rattle.tag_view.specs.Tag.{TagFields}
use Rattle.tag_view.specs.Frame.{with_tags}

-- clones of its parts are the same frame
pub same_reading : (b b' : Bor (List ℕ)) (tags tags' : List TagFields) (Same : TagFields → TagFields → Type 0) → b' ≡ b → AllZip Same tags tags'
    → ((x y : TagFields) → Same x y → y ≡ x) → with_tags b'.now (length tags') tags' ≡ with_tags b.now (length tags) tags
same_reading b b' tags tags' Same is_b zip same =
    ap (λ (x : Bor (List ℕ)). with_tags x.now (length tags') tags') is_b
    ∙ ap (λ (ts : List TagFields). with_tags b.now (length ts) ts) (same_from_all_zip Same tags tags' zip same)
