-- Instances that are found alike under all numbers up to one.
use Rattle.std.proofs.Common.{◌≡◌, ◌<◌, ◌≤◌, ◌+◌, ◌⊎◌, ℕ, List, inl, inr, subst, arith}
use Rattle.std.proofs.lemmas.Bool.{cases_lt}
use Rattle.managed_entity.specs.Instance.{Instance}
use Rattle.mib_state.specs.Entities.{find}

-- under one number more
pub found_more : (some others : List Instance) (i : ℕ) → ((n : ℕ) → n < i → find n some ≡ find n others) → find i some ≡ find i others
    → (n : ℕ) → n < i + 1 → find n some ≡ find n others
found_more some others i below at n within = by_case (cases_lt n i)
  where
    by_case : (n < i) ⊎ (i ≤ n) → find n some ≡ find n others
    by_case (inl less) = below n less
    by_case (inr least) =
        let last : i ≡ n = omega (arith, within, least) in
        subst (λ (m : ℕ). find m some ≡ find m others) last at
