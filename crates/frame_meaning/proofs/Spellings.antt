-- The length of a frame's spelling.
use Rattle.std.proofs.Common.{◌≡◌, ℕ, ◌+◌, ◌*◌, ◌≤◌, List, [], ◌∷◌, ◌++◌, length, length-append, ap, ◌∙◌, arith}
use Rattle.std.specs.List.{flat_map}
use Rattle.tag_view.specs.Tag.{TagFields, tag_bytes}
use Rattle.tag_view.specs.Frame.{Reading, Reads, spelled}
use Rattle.frame_meaning.specs.Size.{GrowsLittle}

-- a tag has four bytes
pub length-tags : (tags : List TagFields) → length (flat_map tag_bytes tags) ≡ 4 * length tags
length-tags [] = omega arith
length-tags (tag ∷ tags) = omega (arith, length-append (tag_bytes tag) (flat_map tag_bytes tags), length-tags tags)

pub length-spelled : (addresses : List ℕ) (tags : List TagFields) (rest : List ℕ)
    → length (spelled addresses tags rest) ≡ length addresses + 4 * length tags + length rest
length-spelled addresses tags rest =
    omega (arith, length-append addresses (flat_map tag_bytes tags ++ rest), length-append (flat_map tag_bytes tags) rest, length-tags tags)

pub ruleset spelled_lengths = (length-spelled)

-- a frame that leaves with four tags at most grows by no more than these
pub grows_little : (bytes : List ℕ) (input : ℕ) (frame left : Reading) (tags : List TagFields)
    → Reads bytes input frame.addresses frame.tags frame.rest → length tags ≤ 4 → left ≡ record frame { tags = tags } → GrowsLittle bytes left
grows_little bytes input frame left tags reads four is =
    let came : length bytes ≡ length frame.addresses + 4 * length frame.tags + length frame.rest =
    ap length reads.spelling ∙ length-spelled frame.addresses frame.tags frame.rest in
    let leaves = length-spelled frame.addresses tags frame.rest in
    let twelve = reads.twelve in
    let type = reads.has_type in
    rw is (record { whole = omega arith; little = omega arith })
