-- Counts that are added to one part of a book.
use Rattle.std.proofs.Common.{◌≡◌, ◌≢◌, ◌<◌, ◌∙◌, ℕ, zero, suc, List, [], ◌∷◌, length, get_or, set, length-set, get_or-set_same, ap, arith, refl}
use Rattle.std.specs.Prelude.{slice_get, Some}
use Rattle.std.proofs.lemmas.Option.{slice_get-get_or, slice_get_read}
use Rattle.frame_stats.specs.declared.counts.Counts.{Counts}
use Rattle.frame_stats.specs.Books.{AddsTo, IsMore}

apart : (parts : List Counts) (lane other : ℕ) (part : Counts) → other ≢ lane → slice_get (set parts lane part) other ≡ slice_get parts other
apart [] lane other part ne = refl
apart (x ∷ xs) zero zero part ne = absurd (ne refl)
apart (x ∷ xs) zero (suc other) part ne = refl
apart (x ∷ xs) (suc lane) zero part ne = refl
apart (x ∷ xs) (suc lane) (suc other) part ne = apart xs lane other part (λ e. ne (ap suc e))

pub adds_to : (lane : ℕ) (added before part : Counts) (parts : List Counts) → lane < length parts → before ≡ get_or parts lane before → IsMore before added part → AddsTo lane added parts (set parts lane part)
adds_to lane added before part parts lt is more =
    let was = slice_get_read parts (length parts) lane before refl lt is in
    let there : lane < length (set parts lane part) = omega (arith, lt, length-set parts lane part) in
    let after : slice_get (set parts lane part) lane ≡ Some part = slice_get-get_or (set parts lane part) lane part there ∙ ap Some (get_or-set_same parts lane part part lt) in
    record { part = rw (was, after) more; others = λ other ne. apart parts lane other part ne }
