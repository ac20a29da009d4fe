-- What digits spell: part of them, and in lower case.
use Rattle.std.proofs.Common.{Bool, ◌≡◌, ◌≢◌, ◌==◌, ◌*◌, ◌+◌, ◌/◌, ◌%◌, ◌<◌, ℕ, zero, suc, List, [], ◌∷◌, length, take, drop, map, true, false, not, ◌||◌, slice_index, bit_or, Result, Ok, Err, refl, sym, ap, ◌∙◌, arith, length-take, length-drop}
use Rattle.std.specs.List.{AllPass, list_all}
use Rattle.std.specs.Result.{is_ok, result_unwrap_or}
use Rattle.std.proofs.lemmas.Bool.{eqb-true}
use Rattle.std.proofs.lemmas.List.Sums.{AllPass-from_list_all, list_all-from_AllPass}
use Rattle.std.proofs.lemmas.List.Elements.{All-drop, All-head, All-tail, All-take}
use Rattle.hex.specs.Hex.{decode_pairs, decode_of, encode_lower, encode_with, is_hex_digit, lower_digits}
use Rattle.hex.specs.declared.error.FromHexError.{FromHexError}
use Rattle.hex.proofs.Pairs.{cons_byte, decode_pairs-ok_pair}
use Rattle.hex.proofs.HexLemmas.{decode_of-even, decode_of-ok}
use Rattle.script_digits.proofs.Characters.{all_below, at}
use Rattle.script_digits.proofs.Pairs.{byte_by_bits, byte_of_pair, byte_of_values, value_by_bits, value_lt}

abbrev IsDigit : ℕ → Type 0
IsDigit c = is_hex_digit c ≡ true

-- the byte of two digits
abbrev pair_of : ℕ → ℕ → ℕ
pair_of high low = byte_by_bits (value_by_bits low * 256 + value_by_bits high)

-- the bytes of digits
abbrev bytes_of : List ℕ → List ℕ
bytes_of [] = []
bytes_of (high ∷ []) = []
bytes_of (high ∷ low ∷ digits) = pair_of high low ∷ bytes_of digits

decoded : (i : ℕ) (s : List ℕ) → length s % 2 ≡ 0 → AllPass is_hex_digit s → decode_pairs i s ≡ Ok (bytes_of s)
unfolding decode_pairs
decoded i [] even all = refl
decoded i (a ∷ []) even all = absurd (omega arith)
decoded i (a ∷ b ∷ s) even all =
    let tail = All-tail IsDigit a (b ∷ s) all in
    let pair = byte_of_pair a b i (All-head IsDigit a (b ∷ s) all) (All-head IsDigit b s tail) in
    decode_pairs-ok_pair i a b _ s pair ∙ ap (cons_byte (pair_of a b)) (decoded (i + 2) s (omega arith) (All-tail IsDigit b s tail))

decoded_of : (s : List ℕ) → length s % 2 ≡ 0 → AllPass is_hex_digit s → decode_of s ≡ Ok (bytes_of s)
decoded_of s even all = decode_of-even s even ∙ decoded 0 s even all

-- the bytes that digits spell are these
spelled : (s bytes : List ℕ) → decode_of s ≡ Ok bytes → bytes ≡ bytes_of s
spelled s bytes is =
    let known = decode_of-ok s bytes is in
    ap (λ (r : Result (List ℕ) FromHexError). result_unwrap_or r []) (sym is ∙ decoded_of s known.0 known.1)

is_err : (r : Result (List ℕ) FromHexError) → ((bytes : List ℕ) → r ≡ Ok bytes → ⊥) → is_ok r ≡ false
is_err (Ok bytes) none = absurd (none bytes refl)
is_err (Err fault) none = refl

-- an even number of digits spells bytes
pub spells : (s : List ℕ) → length s % 2 ≡ 0 → list_all is_hex_digit s ≡ is_ok (decode_of s)
spells s even =
    elim (list_all is_hex_digit s) as (λ b. list_all is_hex_digit s ≡ b → b ≡ is_ok (decode_of s)) [
      | true ↦ λ all. sym (ap is_ok (decoded_of s even (AllPass-from_list_all is_hex_digit s all)))
      | false ↦ λ some. sym (is_err (decode_of s) (λ bytes is. let all = list_all-from_AllPass is_hex_digit s (decode_of-ok s bytes is).1 in cc))
    ] refl

-- an odd number doesn't
pub spells_nothing : (s : List ℕ) → length s % 2 ≢ 0 → false ≡ is_ok (decode_of s)
spells_nothing s odd = sym (is_err (decode_of s) (λ bytes is. odd (decode_of-ok s bytes is).0))

-- ---- part of the digits

front : (k : ℕ) (s : List ℕ) → bytes_of (take (2 * k) s) ≡ take k (bytes_of s)
front zero s = refl
front (suc k) [] =
    let two : 2 * suc k ≡ suc (suc (2 * k)) = omega arith in rw two refl
front (suc k) (a ∷ []) =
    let two : 2 * suc k ≡ suc (suc (2 * k)) = omega arith in rw two refl
front (suc k) (a ∷ b ∷ s) =
    let two : 2 * suc k ≡ suc (suc (2 * k)) = omega arith in rw two (ap (λ bytes. pair_of a b ∷ bytes) (front k s))

rest : (k : ℕ) (s : List ℕ) → bytes_of (drop (2 * k) s) ≡ drop k (bytes_of s)
rest zero s = refl
rest (suc k) [] =
    let two : 2 * suc k ≡ suc (suc (2 * k)) = omega arith in rw two refl
rest (suc k) (a ∷ []) =
    let two : 2 * suc k ≡ suc (suc (2 * k)) = omega arith in rw two refl
rest (suc k) (a ∷ b ∷ s) =
    let two : 2 * suc k ≡ suc (suc (2 * k)) = omega arith in rw two (rest k s)

-- the first digits spell the first bytes
pub spelled_front : (s bytes : List ℕ) (k : ℕ) → decode_of s ≡ Ok bytes → decode_of (take (2 * k) s) ≡ Ok (take k bytes)
spelled_front s bytes k is =
    let known = decode_of-ok s bytes is in
    let even : length (take (2 * k) s) % 2 ≡ 0 = omega (arith, length-take (2 * k) s, known.0) in
    decoded_of (take (2 * k) s) even (All-take IsDigit (2 * k) s known.1) ∙ ap Ok (front k s ∙ ap (take k) (sym (spelled s bytes is)))

-- the digits behind them the bytes behind those
pub spelled_rest : (s bytes : List ℕ) (k : ℕ) → decode_of s ≡ Ok bytes → decode_of (drop (2 * k) s) ≡ Ok (drop k bytes)
spelled_rest s bytes k is =
    let known = decode_of-ok s bytes is in
    let even : length (drop (2 * k) s) % 2 ≡ 0 = omega (arith, length-drop (2 * k) s, known.0) in
    decoded_of (drop (2 * k) s) even (All-drop IsDigit (2 * k) s known.1) ∙ ap Ok (rest k s ∙ ap (drop k) (sym (spelled s bytes is)))

-- ---- lower case

-- a character in lower case
abbrev pub lower_of : ℕ → ℕ
lower_of c = bit_or c 32

abbrev is_lowered : ℕ → Bool
is_lowered c = not (is_hex_digit c) || lower_of c == slice_index lower_digits (value_by_bits c)

all_lowered : all_below is_lowered 256 ≡ true
all_lowered = refl

digit_fits : (c : ℕ) → is_hex_digit c ≡ true → c < 256
digit_fits c is = grind arith

from_digit : (is same : Bool) → (not is || same) ≡ true → is ≡ true → same ≡ true
from_digit true same told is = told
from_digit false same told is = cc

-- a digit in lower case is the one that its value is written with
lowered : (c : ℕ) → is_hex_digit c ≡ true → lower_of c ≡ slice_index lower_digits (value_by_bits c)
lowered c is =
    eqb-true (lower_of c) (slice_index lower_digits (value_by_bits c))
    (from_digit (is_hex_digit c) (lower_of c == slice_index lower_digits (value_by_bits c)) (at is_lowered 256 c all_lowered (digit_fits c is)) is)

halves : (a b : ℕ) → is_hex_digit a ≡ true → is_hex_digit b ≡ true → (pair_of a b / 16 ≡ value_by_bits a) × (pair_of a b % 16 ≡ value_by_bits b)
halves a b is_a is_b =
    let va = value_lt a is_a in
    let vb = value_lt b is_b in
    let pair = byte_of_values (value_by_bits a) (value_by_bits b) va vb in
    (omega (arith, pair, va, vb), omega (arith, pair, va, vb))

lowered_all : (s : List ℕ) → length s % 2 ≡ 0 → AllPass is_hex_digit s → map lower_of s ≡ encode_lower (bytes_of s)
unfolding encode_with
lowered_all [] even all = refl
lowered_all (a ∷ []) even all = absurd (omega arith)
lowered_all (a ∷ b ∷ s) even all =
    let tail = All-tail IsDigit a (b ∷ s) all in
    let is_a = All-head IsDigit a (b ∷ s) all in
    let is_b = All-head IsDigit b s tail in
    let both = halves a b is_a is_b in
    let high : lower_of a ≡ slice_index lower_digits (pair_of a b / 16) = lowered a is_a ∙ ap (slice_index lower_digits) (sym both.0) in
    let low : lower_of b ≡ slice_index lower_digits (pair_of a b % 16) = lowered b is_b ∙ ap (slice_index lower_digits) (sym both.1) in
    ap (λ c. c ∷ lower_of b ∷ map lower_of s) high
    ∙ ap (λ c. slice_index lower_digits (pair_of a b / 16) ∷ c ∷ map lower_of s) low
    ∙ ap (λ cs. slice_index lower_digits (pair_of a b / 16) ∷ slice_index lower_digits (pair_of a b % 16) ∷ cs) (lowered_all s (omega arith) (All-tail IsDigit b s tail))

-- digits in lower case are those that their bytes are written with
pub lowered_digits : (s bytes : List ℕ) → decode_of s ≡ Ok bytes → map lower_of s ≡ encode_lower bytes
lowered_digits s bytes is =
    let known = decode_of-ok s bytes is in
    lowered_all s known.0 known.1 ∙ ap encode_lower (sym (spelled s bytes is))
