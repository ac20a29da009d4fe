-- One frame more among the first ten.
use Rattle.std.proofs.Common.{◌≡◌, ◌≤◌, ◌<◌, ℕ, ◌+◌, List, [], ◌∷◌, ◌++◌, length, take, slice_set, sym, ◌∙◌, arith, length-append, length-take}
use Rattle.std.proofs.lemmas.List.{take_all, take_more_set, take-append-le}

-- there is room
pub noted : (first : List ℕ) (n number : ℕ) → length first ≡ 10 → n < 10
    → take (n + 1) (slice_set first n number) ≡ take 10 (take n first ++ number ∷ [])
noted first n number ten few =
    let set : take (n + 1) (slice_set first n number) ≡ take n first ++ number ∷ [] = take_more_set first n number (omega arith) in
    set ∙ sym (take_all 10 (take n first ++ number ∷ []) (omega (arith, length-append (take n first) (number ∷ []), length-take n first)))

-- there is none
pub not_noted : (first : List ℕ) (n number : ℕ) → length first ≡ 10 → 10 ≤ n
    → take (n + 1) first ≡ take 10 (take n first ++ number ∷ [])
not_noted first n number ten many =
    let all : take n first ≡ first = take_all n first (omega arith) in
    take_all (n + 1) first (omega arith) ∙ sym (rw all (take-append-le 10 first (number ∷ []) (omega arith) ∙ take_all 10 first (omega arith)))
