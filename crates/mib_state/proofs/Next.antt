-- The least number that isn't under another is that at the place of a search.
use Rattle.std.proofs.Common.{◌≡◌, ℕ, zero, suc, ◌<◌, ◌≤◌, List, [], ◌∷◌, length, get_or, map, Some, None, refl, ap, arith}
use Rattle.std.proofs.lemmas.Bool.{le-leb, lt-leb}
use Rattle.managed_entity.specs.Instance.{Instance}
use Rattle.mib_state.specs.Entities.{next, IsAscending, IsAt, IsGapFor}
use Rattle.mib_state.proofs.Place.{tail_at, tail_gap, tail_ascending, head_smaller}

pub next_at : (l : List Instance) (n i : ℕ) → IsAscending l → IsAt l n i → next n l ≡ Some n
next_at [] n i up at = absurd (omega (arith, at.in_range))
next_at (x ∷ l) n zero up at = rw (le-leb n x.number (omega (arith, at.has_number))) (ap Some at.has_number)
next_at (x ∷ l) n (suc i) up at =
    let smaller = head_smaller x l n i up at in
    rw (lt-leb n x.number smaller) (next_at l n i (tail_ascending x l up) (tail_at x l n i at))

module _ {R : Type 0} (shown : R → Instance) where
  pub next_shown : (rows : List R) (n i : ℕ) (row : R) → IsGapFor (map shown rows) n i → i < length rows → row ≡ get_or rows i row
      → next n (map shown rows) ≡ Some (shown row).number
  next_shown [] n i row gap h is = absurd (omega arith)
  next_shown (x ∷ rows) n zero row gap h is =
      let greater : n < (shown x).number = gap.greater_after zero (omega arith) (omega arith) in
      rw (le-leb n (shown x).number (omega arith), is) refl
  next_shown (x ∷ rows) n (suc i) row gap h is =
      let smaller : (shown x).number < n = gap.smaller_before zero (omega arith) in
      rw (lt-leb n (shown x).number smaller) (next_shown rows n i row (tail_gap (shown x) (map shown rows) n i gap) (omega arith) is)

pub next_past : (l : List Instance) (n i : ℕ) → IsGapFor l n i → length l ≤ i → next n l ≡ None
next_past [] n i gap past = refl
next_past (x ∷ l) n zero gap past = absurd (omega arith)
next_past (x ∷ l) n (suc i) gap past =
    let smaller : x.number < n = gap.smaller_before zero (omega arith) in
    rw (lt-leb n x.number smaller) (next_past l n i (tail_gap x l n i gap) (omega arith))
