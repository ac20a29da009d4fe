-- Bytes written over zeros.
use Rattle.std.proofs.Common.{◌≡◌, ℕ, zero, suc, ◌≤◌, List, [], ◌∷◌, ◌++◌, length, drop, refl, ap, arith}
use lib.ListN.{replicate}
use Rattle.managed_entity.specs.Answer.{padded}

no_bytes : (n : ℕ) → replicate n 0 ≡ padded n []
no_bytes zero = refl
no_bytes (suc n) = ap (λ rest. 0 ∷ rest) (no_bytes n)

pub padded_is : (n : ℕ) (bytes : List ℕ) → length bytes ≤ n → bytes ++ drop (length bytes) (replicate n 0) ≡ padded n bytes
padded_is n [] h = no_bytes n
padded_is zero (b ∷ bytes) h = absurd (omega arith)
padded_is (suc n) (b ∷ bytes) h = ap (λ rest. b ∷ rest) (padded_is n bytes (omega arith))
