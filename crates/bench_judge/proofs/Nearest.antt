-- The last and the first ended frames of a port.
use Rattle.std.proofs.Common.{◌≡◌, ℕ, ◌+◌, ◌<◌, ◌≤◌, true, List, length, Option, Some, None, is_some, get_or, sym, subst, arith, inl, inr}
use Rattle.std.proofs.lemmas.Bool.{cases_lt}
use Rattle.std.proofs.lemmas.Option.{get_or_from_slice_get, slice_get-get_or}
use Rattle.bench_judge.specs.Bounds.{HasEndedAt, IsLastOf}
use Rattle.bench_judge.specs.declared.frame.Frame.{Frame}

abbrev IsEndedAt : ℕ → Frame → Type 0
IsEndedAt port frame = (is_some frame.ended ≡ true) × (frame.port ≡ port)

-- what is told of the frame at a number is told of the number
pub ended_here : (frames : List Frame) (port n : ℕ) (d : Frame) → n < length frames → IsEndedAt port (get_or frames n d) → HasEndedAt frames port n
ended_here frames port n d within is =
    record { frame = get_or frames n d; at = slice_get-get_or frames n d within; ended = is.0; port = is.1 }

pub here_ended : (frames : List Frame) (port n : ℕ) (d : Frame) → HasEndedAt frames port n → IsEndedAt port (get_or frames n d)
here_ended frames port n d held =
    let same : get_or frames n d ≡ held.frame = get_or_from_slice_get frames n held.frame d held.at in
    subst (IsEndedAt port) (sym same) (held.ended, held.port)

-- one number more
pub last_here : (frames : List Frame) (port n : ℕ) (new : Option ℕ) → HasEndedAt frames port n → new ≡ Some n → IsLastOf frames port (n + 1) new
last_here frames port n new held is =
    subst (IsLastOf frames port (n + 1)) (sym is) (omega arith, held, λ m lt other. omega (arith, lt))

pub last_not_here : (frames : List Frame) (port n : ℕ) (last new : Option ℕ) → (HasEndedAt frames port n → ⊥) → IsLastOf frames port n last → new ≡ last
    → IsLastOf frames port (n + 1) new
last_not_here frames port n (Some k) new none last is =
    subst (IsLastOf frames port (n + 1)) (sym is) (
      omega (arith, last.0),
      last.1,
      λ m lt other.
          elim (cases_lt m n) [
            | inl under ↦ last.2 m under other
            | inr over ↦ absurd (none (subst (HasEndedAt frames port) (both m n over lt) other))
          ],
    )
  where
    both : (a b : ℕ) → b ≤ a → a < b + 1 → a ≡ b
    both a b ge lt = omega (arith, ge, lt)
last_not_here frames port n None new none last is =
    subst (IsLastOf frames port (n + 1)) (sym is) (λ m lt other.
    elim (cases_lt m n) [
      | inl under ↦ last m under other
      | inr over ↦ none (subst (HasEndedAt frames port) (both m n over lt) other)
    ])
  where
    both : (a b : ℕ) → b ≤ a → a < b + 1 → a ≡ b
    both a b ge lt = omega (arith, ge, lt)

pub last_up_to : (frames : List Frame) (port m n : ℕ) (last : Option ℕ) → m ≡ n → IsLastOf frames port m last → IsLastOf frames port n last
last_up_to frames port m n last same is = subst (λ k. IsLastOf frames port k last) same is
