-- Elements in order of their keys; those of one key stay in the order that they have.
use Rattle.std.specs.Prelude.{ℕ, List, [], ◌∷◌, if◌then◌else◌, nat_le}

-- an element in front of the first whose key is as great
abbrev pub placed : {X : Type 0} → (X → ℕ) → X → List X → List X
placed key x [] = x ∷ []
placed key x (y ∷ ys) = if nat_le (key x) (key y) then x ∷ y ∷ ys else y ∷ placed key x ys

abbrev pub in_order : {X : Type 0} → (X → ℕ) → List X → List X
in_order key [] = []
in_order key (x ∷ xs) = placed key x (in_order key xs)
