-- The lengths of what leaves and of its digits.
use Rattle.std.proofs.Common.{◌≡◌, ◌≤◌, ℕ, ◌+◌, ◌-◌, ◌*◌, ◌++◌, List, Ok, length, drop, arith, length-append, length-drop}
use Rattle.std.specs.List.{flat_map}
use Rattle.hex.specs.Hex.{decode_of}
use Rattle.hex.proofs.HexLemmas.{decode_of-ok}
use Rattle.tag_view.specs.Frame.{Reading, frame_bytes}
use Rattle.tag_view.specs.Tag.{tag_bytes}
use Rattle.script_heads.specs.Heads.{IsHeadOf}

-- what leaves, with so many of the bytes that came behind its tags
abbrev pub left_of : Reading → List ℕ → List ℕ
left_of frame bytes = frame_bytes (record frame { rest = drop (length bytes - length frame.rest) bytes })

pub left_length : (frame : Reading) (bytes : List ℕ) (head rest : ℕ) → length frame.rest ≤ length bytes → head ≡ length (frame.addresses ++ flat_map tag_bytes frame.tags)
    → rest ≡ length frame.rest → head + rest ≡ length (left_of frame bytes)
left_length frame bytes head rest within is_head is_rest =
    let tags = flat_map tag_bytes frame.tags in
    let behind = drop (length bytes - length frame.rest) bytes in
    omega (arith, within, is_head, is_rest, length-append frame.addresses tags, length-append frame.addresses (tags ++ behind), length-append tags behind, length-drop (length bytes - length frame.rest) bytes)

-- a rest that is within the head of a frame has no more digits than the frame
pub rest_fits : (digits bytes head rest : List ℕ) → decode_of digits ≡ Ok bytes → IsHeadOf bytes head → length rest ≤ length head → 2 * length rest ≤ length digits
rest_fits digits bytes head rest is front within = omega (arith, (decode_of-ok digits bytes is).2, front.len, within)
