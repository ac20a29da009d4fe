-- Where bytes of a piece stand in the file.
use Rattle.std.proofs.Common.{◌≡◌, ◌≤◌, ◌<◌, ℕ, ◌+◌, ◌-◌, List, ◌++◌, length, min, take, drop, zero, suc, [], ◌∷◌, arith, refl, sym, ap, ◌∙◌, length-drop, length-append, append_assoc}
use Rattle.std.proofs.lemmas.List.{drop-append-le, length-take, length-take-le, take-append-drop}
use Rattle.std.proofs.Math.Seq.{drop-append-add}
use Rattle.capture_pieces.specs.declared.piece.Piece.{Piece}
use Rattle.capture_pieces.specs.Joined.{Holds, longest, own_of}

-- how many bytes follow the piece's own
pub tail_length : (p : Piece) (behind : List ℕ) → Holds p behind → length p.bytes.items - p.own ≡ length (take longest behind)
tail_length p behind holds =
    let all : length p.bytes.items ≡ length (own_of p) + length (take longest behind) =
    ap (λ (bytes : List ℕ). length bytes) holds.bytes ∙ length-append (own_of p) (take longest behind) in
    let own : length (own_of p) ≡ p.own = length-take-le p.own p.bytes.items holds.own in
    omega (arith, all, own)

-- bytes that are longer than those that follow are as long as the longest record, where something isn't held
pub reaches : (p : Piece) (behind rest : List ℕ) → Holds p behind → length p.bytes.items - p.own < length rest → 0 < length (drop longest behind) → 262160 ≤ length rest
reaches p behind rest holds long some =
    let tail : length p.bytes.items - p.own ≡ length (take longest behind) = tail_length p behind holds in
    let taken : length (take longest behind) ≡ min longest (length behind) = length-take longest behind in
    let left : length (drop longest behind) ≡ length behind - longest = length-drop longest behind in
    omega (arith, tail, taken, left, long, some)

-- from a place on, with what isn't held
pub from_place : (p : Piece) (behind : List ℕ) (at : ℕ) → Holds p behind → at ≤ length p.bytes.items
    → drop at p.bytes.items ++ drop longest behind ≡ drop at (own_of p ++ behind)
from_place p behind at holds within =
    sym (drop-append-le at p.bytes.items (drop longest behind) within)
    ∙ ap (λ (bytes : List ℕ). drop at (bytes ++ drop longest behind)) holds.bytes
    ∙ ap (λ (bytes : List ℕ). drop at bytes) (append_assoc (own_of p) (take longest behind) (drop longest behind)
    ∙ ap (λ (bytes : List ℕ). own_of p ++ bytes) (take-append-drop longest behind))

-- from behind the own bytes on
pub from_behind : (p : Piece) (behind rest : List ℕ) → Holds p behind → rest ≡ drop (length p.bytes.items - length rest) p.bytes.items
    → length rest ≤ length p.bytes.items - p.own → rest ++ drop longest behind ≡ drop (length p.bytes.items - p.own - length rest) behind
from_behind p behind rest holds suffix short =
    let k : ℕ = length p.bytes.items - p.own - length rest in
    let own : length (own_of p) ≡ p.own = length-take-le p.own p.bytes.items holds.own in
    let tail : length p.bytes.items - p.own ≡ length (take longest behind) = tail_length p behind holds in
    let place : length p.bytes.items - length rest ≡ length (own_of p) + k = omega (arith, own, short, holds.own) in
    let is : rest ≡ drop k (take longest behind) =
    suffix ∙ ap (λ n. drop n p.bytes.items) place ∙ ap (λ (bytes : List ℕ). drop (length (own_of p) + k) bytes) holds.bytes
    ∙ drop-append-add (own_of p) (take longest behind) k in
    ap (λ (bytes : List ℕ). bytes ++ drop longest behind) is
    ∙ sym (drop-append-le k (take longest behind) (drop longest behind) (omega (arith, tail)))
    ∙ ap (λ (bytes : List ℕ). drop k bytes) (take-append-drop longest behind)

-- an end of bytes is what is behind as many as are missing
pub suffix_any : (n : ℕ) (bytes : List ℕ) → drop n bytes ≡ drop (length bytes - length (drop n bytes)) bytes
suffix_any zero bytes = ap (λ k. drop k bytes) (none (length bytes))
  where
    none : (k : ℕ) → 0 ≡ k - k
    none k = omega arith
suffix_any (suc n) [] = refl
suffix_any (suc n) (x ∷ bytes) =
    let one : suc (length bytes) - length (drop n bytes) ≡ suc (length bytes - length (drop n bytes)) = omega (arith, length-drop n bytes) in
    suffix_any n bytes ∙ ap (λ k. drop k (x ∷ bytes)) (sym one)

-- from a place behind the own bytes on
pub past_own : (p : Piece) (behind : List ℕ) (at : ℕ) → Holds p behind → p.own ≤ at → drop at (own_of p ++ behind) ≡ drop (at - p.own) behind
past_own p behind at holds past =
    let own : length (own_of p) ≡ p.own = length-take-le p.own p.bytes.items holds.own in
    let place : at ≡ length (own_of p) + (at - p.own) = omega (arith, own, past) in
    ap (λ n. drop n (own_of p ++ behind)) place ∙ drop-append-add (own_of p) behind (at - p.own)

-- where something isn't held, the piece has as many bytes as the longest record
pub holds_longest : (p : Piece) (behind : List ℕ) → Holds p behind → 0 < length (drop longest behind) → 262160 ≤ length p.bytes.items
holds_longest p behind holds some =
    let tail : length p.bytes.items - p.own ≡ length (take longest behind) = tail_length p behind holds in
    let taken : length (take longest behind) ≡ min longest (length behind) = length-take longest behind in
    let left : length (drop longest behind) ≡ length behind - longest = length-drop longest behind in
    omega (arith, tail, taken, left, some, holds.own)
