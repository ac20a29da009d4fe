-- The first bytes of what is joined of a first part and the first bytes of a second.
use Rattle.std.proofs.Common.{◌≡◌, ◌≤◌, ℕ, zero, suc, List, [], ◌∷◌, ◌++◌, take, arith, refl, ap}

take_take : {A : Type 0} (n m : ℕ) (ys : List A) → n ≤ m → take n (take m ys) ≡ take n ys
take_take zero m ys le = refl
take_take (suc n) zero ys le = absurd (omega (arith, le))
take_take (suc n) (suc m) [] le = refl
take_take (suc n) (suc m) (y ∷ ys) le = ap (λ (l : List _). y ∷ l) (take_take n m ys (omega (arith, le)))

-- as many of the second as are wanted in all
pub take_front : {A : Type 0} (n m : ℕ) (xs ys : List A) → n ≤ m → take n (xs ++ take m ys) ≡ take n (xs ++ ys)
take_front zero m xs ys le = refl
take_front (suc n) m [] ys le = take_take (suc n) m ys le
take_front (suc n) m (x ∷ xs) ys le = ap (λ (l : List _). x ∷ l) (take_front n m xs ys (omega (arith, le)))
