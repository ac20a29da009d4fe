-- The bytes that a window holds.
use Rattle.std.proofs.Common.{◌≡◌, ◌≤◌, ℕ, ◌+◌, ◌-◌, List, ◌++◌, length, take, drop, arith, sym, ap, ◌∙◌, Option, Some, None, append_assoc, length-drop, length-take}
use Rattle.std.proofs.lemmas.List.{drop-append-le, drop-drop, drop-take, take-take}
use Rattle.std.proofs.lemmas.List.Edits.{take-paste}
use Rattle.std.proofs.Math.Seq.{paste, take-add}
use Rattle.std.specs.List.{copy_within}
use Rattle.std.specs.Io.KnownBytes.{Consumes, Keeps, prepend_known}
use Rattle.std.specs.Prelude.{min, slice_range}

-- without the first bytes
pub held_taken : (bytes : List ℕ) (start end count : ℕ) → count ≤ length (slice_range bytes start end)
    → slice_range bytes (start + count) end ≡ drop count (slice_range bytes start end)
held_taken bytes start end count fits =
    let size : length (slice_range bytes start end) ≡ min (end - start) (length (drop start bytes)) = length-take (end - start) (drop start bytes) in
    let split : end - start ≡ count + (end - (start + count)) = omega (arith, fits, size) in
    sym (ap (λ (n : ℕ). drop count (take n (drop start bytes))) split
    ∙ drop-take count (end - (start + count)) (drop start bytes)
    ∙ ap (λ (left : List ℕ). take (end - (start + count)) left) (drop-drop count start bytes))

-- with the bytes that were read behind it
pub held_grown : (old new : List ℕ) (start end count : ℕ) → start ≤ end → take end new ≡ take end old
    → slice_range new start (end + count) ≡ slice_range old start end ++ take count (drop end new)
held_grown old new start end count ordered kept =
    let size : end + count - start ≡ (end - start) + count = omega (arith, ordered) in
    let whole : end ≡ start + (end - start) = omega (arith, ordered) in
    let front : take (end - start) (drop start new) ≡ take (end - start) (drop start old) =
    sym (drop-take start (end - start) new)
    ∙ ap (λ (n : ℕ). drop start (take n new)) (sym whole)
    ∙ ap (λ (bytes : List ℕ). drop start bytes) kept
    ∙ ap (λ (n : ℕ). drop start (take n old)) whole
    ∙ drop-take start (end - start) old in
    let behind : drop (end - start) (drop start new) ≡ drop end new = drop-drop (end - start) start new ∙ ap (λ (n : ℕ). drop n new) (sym whole) in
    ap (λ (n : ℕ). take n (drop start new)) size
    ∙ take-add (end - start) count (drop start new)
    ∙ ap (λ (left : List ℕ). left ++ take count (drop (end - start) (drop start new))) front
    ∙ ap (λ (left : List ℕ). take (end - start) (drop start old) ++ take count left) behind

-- with none behind it
pub held_same : (old new : List ℕ) (start end : ℕ) → start ≤ end → take end new ≡ take end old → slice_range new start end ≡ slice_range old start end
held_same old new start end ordered kept =
    let whole : end ≡ start + (end - start) = omega (arith, ordered) in
    sym (drop-take start (end - start) new)
    ∙ ap (λ (n : ℕ). drop start (take n new)) (sym whole)
    ∙ ap (λ (bytes : List ℕ). drop start bytes) kept
    ∙ ap (λ (n : ℕ). drop start (take n old)) whole
    ∙ drop-take start (end - start) old

-- without bytes behind the first ones, where those behind them were moved up
pub held_cut : (bytes : List ℕ) (start end skipped count : ℕ) → start ≤ end → end ≤ length bytes → skipped + count ≤ length (slice_range bytes start end)
    → slice_range (copy_within bytes (start + skipped + count) end (start + skipped)) start (end - count)
    ≡ take skipped (slice_range bytes start end) ++ drop (skipped + count) (slice_range bytes start end)
held_cut bytes start end skipped count ordered all within =
    let to = start + skipped in
    let from = to + count in
    let left = end - from in
    let source = drop from bytes in
    let moved = paste bytes to source left in
    let size : length (slice_range bytes start end) ≡ min (end - start) (length (drop start bytes)) = length-take (end - start) (drop start bytes) in
    let fits : from ≤ end = omega (arith, within, size, ordered) in
    let room : left ≤ length source = omega (arith, fits, all, length-drop from bytes) in
    let whole : start + (end - count - start) ≡ to + left = omega (arith, fits) in
    let first : start ≤ length (take to bytes) = omega (arith, fits, all, length-take to bytes) in
    let rest : end - start ≡ skipped + count + left = omega (arith, fits) in
    sym (drop-take start (end - count - start) moved)
    ∙ ap (λ (n : ℕ). drop start (take n moved)) whole
    ∙ ap (λ (front : List ℕ). drop start front) (take-paste bytes to source left (omega (arith, fits, all)) room)
    ∙ drop-append-le start (take to bytes) (take left source) first
    ∙ ap (λ (front : List ℕ). front ++ take left source) (drop-take start skipped bytes ∙ sym (take-take skipped (end - start) (drop start bytes) (omega (arith, rest))))
    ∙ ap (λ (back : List ℕ). take skipped (slice_range bytes start end) ++ back)
    (sym (ap (λ (n : ℕ). drop (skipped + count) (take n (drop start bytes))) rest
    ∙ drop-take (skipped + count) left (drop start bytes)
    ∙ ap (take left) (drop-drop (skipped + count) start bytes ∙ ap (λ (n : ℕ). drop n bytes) (let a : start + (skipped + count) ≡ from = omega arith in a))))

-- a part of the bytes that are held is a part of the buffer
pub held_part : (bytes : List ℕ) (start end skipped count : ℕ) → skipped + count ≤ length (slice_range bytes start end)
    → take count (drop skipped (slice_range bytes start end)) ≡ take count (drop (start + skipped) bytes)
held_part bytes start end skipped count within =
    let size : length (slice_range bytes start end) ≡ min (end - start) (length (drop start bytes)) = length-take (end - start) (drop start bytes) in
    let split : end - start ≡ skipped + (end - start - skipped) = omega (arith, within, size) in
    ap (λ (n : ℕ). take count (drop skipped (take n (drop start bytes)))) split
    ∙ ap (λ (left : List ℕ). take count left) (drop-take skipped (end - start - skipped) (drop start bytes))
    ∙ take-take count (end - start - skipped) (drop skipped (drop start bytes)) (omega (arith, within, size))
    ∙ ap (λ (left : List ℕ). take count left) (drop-drop skipped start bytes)

pub held_within : (bytes : List ℕ) (start end skipped count : ℕ) → start ≤ length bytes → skipped + count ≤ length (slice_range bytes start end)
    → start + skipped + count ≤ length bytes
held_within bytes start end skipped count starts within =
    omega (arith, starts, within, length-take (end - start) (drop start bytes), length-drop start bytes)

-- ---- the bytes that are held, and those that a reader has left

-- bytes that a reader gave are held behind the others
pub read_on : (a b : Option (List ℕ)) (old new bytes : List ℕ) → new ≡ old ++ bytes → Consumes a b bytes → Keeps (prepend_known old a) (prepend_known new b)
read_on None b old new bytes grown took = tt
read_on (Some x) None old new bytes grown took = absurd took
read_on (Some x) (Some y) old new bytes grown took =
    ap (λ (left : List ℕ). left ++ y) grown ∙ append_assoc old bytes y ∙ ap (λ (left : List ℕ). old ++ left) (sym took)

-- or it gave none
pub read_none : (a b : Option (List ℕ)) (old new : List ℕ) → new ≡ old → Keeps a b → Keeps (prepend_known old a) (prepend_known new b)
read_none None b old new same kept = tt
read_none (Some x) None old new same kept = absurd kept
read_none (Some x) (Some y) old new same kept = ap (λ (left : List ℕ). left ++ y) same ∙ ap (λ (left : List ℕ). old ++ left) kept
