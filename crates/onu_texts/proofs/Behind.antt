-- What stands in a room behind a text that was put into it.
use Rattle.std.proofs.Common.{◌≡◌, ◌∙◌, ℕ, Bool, true, false, if◌then◌else◌, List, ◌++◌, length, drop, refl, sym, ap}
use Rattle.std.proofs.Math.Seq.{drop-append_seam}
use Rattle.onu_texts.specs.Room.{fits, room_with}

either_way : (b : Bool) (text room : List ℕ) → drop (length text) (if b then text ++ drop (length text) room else room) ≡ drop (length text) room
either_way true text room = drop-append_seam text (drop (length text) room)
either_way false text room = refl

pub behind_put : (text room after : List ℕ) (written : ℕ) → written ≡ length text → after ≡ room_with text room → drop written after ≡ drop written room
behind_put text room after written has leaves =
    ap (λ n. drop n after) has ∙ ap (drop (length text)) leaves ∙ either_way (fits text room) text room ∙ ap (λ n. drop n room) (sym has)
