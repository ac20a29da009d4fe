-- The bytes of a table, and the part of them that an answer holds.
use Rattle.std.proofs.Common.{◌≡◌, ℕ, zero, suc, ◌+◌, ◌≤◌, ◌<◌, List, [], ◌∷◌, ◌++◌, length, take, Some, None, refl, ap, sym, ◌∙◌, arith, append_assoc, inl, inr}
use Rattle.std.specs.Prelude.{min, slice_get}
use Rattle.std.specs.List.{concat}
use Rattle.std.proofs.lemmas.Bool.{cases_lt}
use Rattle.std.proofs.lemmas.List.{append-nil, take_all}
use Rattle.managed_entity.specs.Answer.{padded}

padded_take : (n : ℕ) (bytes : List ℕ) → padded n (take n bytes) ≡ padded n bytes
padded_take zero bytes = refl
padded_take (suc n) [] = refl
padded_take (suc n) (b ∷ bytes) = ap (λ rest. b ∷ rest) (padded_take n bytes)

-- bytes past the room are left out
pub padded_front : (n k : ℕ) (bytes : List ℕ) → k ≡ min (length bytes) n → padded n (take k bytes) ≡ padded n bytes
padded_front n k bytes e = elim (cases_lt n (length bytes)) [
  | inl longer ↦ let all : k ≡ n = omega arith in rw all (padded_take n bytes)
  | inr fits ↦ let all : length bytes ≤ k = omega arith in ap (padded n) (take_all k bytes all)
]

-- one more entry
pub concat_more : (entries : List (List ℕ)) (i : ℕ) (entry : List ℕ) → slice_get entries i ≡ Some entry
    → concat (take (i + 1) entries) ≡ concat (take i entries) ++ entry
concat_more [] i entry h = cc
concat_more (x ∷ entries) zero entry h = let same : x ≡ entry = cc in append-nil x ∙ same
concat_more (x ∷ entries) (suc i) entry h =
    let more : suc i + 1 ≡ suc (i + 1) = omega arith in
    rw more (ap (λ rest. x ++ rest) (concat_more entries i entry h) ∙ sym (append_assoc x (concat (take i entries)) entry))

-- an entry within the table is there
pub missing : (entries : List (List ℕ)) (i : ℕ) → i < length entries → slice_get entries i ≡ None → ⊥
missing [] i inside h = absurd (omega arith)
missing (x ∷ entries) zero inside h = cc
missing (x ∷ entries) (suc i) inside h = missing entries i (omega arith) h
