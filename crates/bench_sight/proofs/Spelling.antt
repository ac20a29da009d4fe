-- Digits and the bytes that they spell.
use Rattle.std.proofs.Common.{◌≡◌, ◌<◌, ◌==◌, ℕ, zero, suc, ◌*◌, ◌||◌, Bool, true, false, not, List, [], ◌∷◌, Result, Ok, length, get_or, map, replicate, refl, sym, ap, ◌∙◌, arith}
use Rattle.std.specs.Result.{result_unwrap_or}
use Rattle.std.specs.List.{AllPass}
use Rattle.std.proofs.lemmas.Bool.{eq-eqb, eqb-true}
use Rattle.std.proofs.lemmas.List.{get_or-map, get_or-replicate, length-map}
use Rattle.hex.specs.Hex.{IsBytes, decode_of, encode_lower, encode_with, is_hex_digit}
use Rattle.hex.specs.declared.error.FromHexError.{FromHexError}
use Rattle.hex.proofs.HexLemmas.{decode_of-encode_lower, decode_of-ok, decode_of-same}
use Rattle.script_digits.proofs.Characters.{all_below, at}
use Rattle.script_digits.proofs.Digits.{lower_of, lowered_digits}

-- ---- in lower case

pub lower_at : (xs ys : List ℕ) → map lower_of xs ≡ map lower_of ys → (k : ℕ) → k < length xs → lower_of (get_or xs k 0) ≡ lower_of (get_or ys k 0)
lower_at xs ys same k lt =
    let long : length xs ≡ length ys = sym (length-map xs lower_of) ∙ ap (λ (l : List ℕ). length l) same ∙ length-map ys lower_of in
    sym (get_or-map lower_of xs k 0 0 lt) ∙ ap (λ (l : List ℕ). get_or l k 0) same ∙ get_or-map lower_of ys k 0 0 (omega (arith, lt, long))

pub lower_length : (xs ys : List ℕ) → map lower_of xs ≡ map lower_of ys → length xs ≡ length ys
lower_length xs ys same = sym (length-map xs lower_of) ∙ ap (λ (l : List ℕ). length l) same ∙ length-map ys lower_of

pub same_lower : (xs ys : List ℕ) → length xs ≡ length ys → ((k : ℕ) → k < length xs → lower_of (get_or xs k 0) ≡ lower_of (get_or ys k 0)) → map lower_of xs ≡ map lower_of ys
same_lower [] [] long each = refl
same_lower [] (y ∷ ys) long each = absurd (omega (arith, long))
same_lower (x ∷ xs) [] long each = absurd (omega (arith, long))
same_lower (x ∷ xs) (y ∷ ys) long each =
    let head : lower_of x ≡ lower_of y = each zero (omega arith) in
    let tail : map lower_of xs ≡ map lower_of ys = same_lower xs ys (omega (arith, long)) (λ k lt. each (suc k) (omega (arith, lt))) in
    ap (λ (b : ℕ). b ∷ map lower_of xs) head ∙ ap (λ (l : List ℕ). lower_of y ∷ l) tail

-- digits that are the same in lower case spell the same bytes
pub same_bytes : (one other bytes more : List ℕ) → decode_of one ≡ Ok bytes → decode_of other ≡ Ok more → map lower_of one ≡ map lower_of other → bytes ≡ more
same_bytes one other bytes more is are same =
    let first : decode_of (encode_lower bytes) ≡ Ok bytes = decode_of-encode_lower bytes (decode_of-ok one bytes is).3 in
    let second : decode_of (encode_lower more) ≡ Ok more = decode_of-encode_lower more (decode_of-ok other more are).3 in
    let spelled : encode_lower bytes ≡ encode_lower more = sym (lowered_digits one bytes is) ∙ same ∙ lowered_digits other more are in
    ap (λ (r : Result (List ℕ) FromHexError). result_unwrap_or r []) (sym first ∙ ap decode_of spelled ∙ second)

-- and the same bytes are spelled so
pub same_digits : (one other bytes more : List ℕ) → decode_of one ≡ Ok bytes → decode_of other ≡ Ok more → bytes ≡ more → map lower_of one ≡ map lower_of other
same_digits one other bytes more is are same = lowered_digits one bytes is ∙ ap encode_lower same ∙ sym (lowered_digits other more are)

-- ---- zeros

zeros_spelled : (n : ℕ) → encode_lower (replicate n 0) ≡ replicate (2 * n) 48
unfolding encode_with
zeros_spelled zero = refl
zeros_spelled (suc n) =
    let two : 2 * suc n ≡ suc (suc (2 * n)) = omega arith in rw two (ap (λ (l : List ℕ). 48 ∷ 48 ∷ l) (zeros_spelled n))

are_bytes : (n : ℕ) → IsBytes (replicate n 0)
are_bytes zero i = omega arith
are_bytes (suc n) zero = omega arith
are_bytes (suc n) (suc i) = are_bytes n i

all_zeros : (xs : List ℕ) → ((k : ℕ) → k < length xs → get_or xs k 0 ≡ 48) → xs ≡ replicate (length xs) 48
all_zeros [] each = refl
all_zeros (x ∷ xs) each =
    let head : x ≡ 48 = each zero (omega arith) in
    ap (λ (b : ℕ). b ∷ xs) head ∙ ap (λ (l : List ℕ). 48 ∷ l) (all_zeros xs (λ k lt. each (suc k) (omega (arith, lt))))

-- zeros spell zeros
pub zero_bytes : (digits bytes : List ℕ) → decode_of digits ≡ Ok bytes → ((k : ℕ) → k < length digits → get_or digits k 0 ≡ 48)
    → bytes ≡ replicate (length bytes) 0
zero_bytes digits bytes is each =
    let n = length bytes in
    let spelled : digits ≡ encode_lower (replicate n 0) =
    all_zeros digits each ∙ ap (λ (k : ℕ). replicate k 48) (decode_of-ok digits bytes is).2 ∙ sym (zeros_spelled n) in
    decode_of-same digits bytes (replicate n 0) is (ap decode_of spelled ∙ decode_of-encode_lower (replicate n 0) (are_bytes n))

abbrev is_told : ℕ → Bool
is_told c = not (is_hex_digit c) || (not (lower_of c == 48) || c == 48)

all_told : all_below is_told 256 ≡ true
all_told = refl

digit_fits : (c : ℕ) → is_hex_digit c ≡ true → c < 256
digit_fits c is = grind arith

from_told : (is lowered same : Bool) → (not is || (not lowered || same)) ≡ true → is ≡ true → lowered ≡ true → same ≡ true
from_told true true same told is lowered = told
from_told true false same told is lowered = cc
from_told false lowered same told is other = cc

zero_digit : (c : ℕ) → is_hex_digit c ≡ true → lower_of c ≡ 48 → c ≡ 48
zero_digit c is lowered =
    eqb-true c 48
    (from_told (is_hex_digit c) (lower_of c == 48) (c == 48) (at is_told 256 c all_told (digit_fits c is)) is (eq-eqb (lower_of c) 48 lowered))

digit_at : (xs : List ℕ) → AllPass is_hex_digit xs → (k : ℕ) → k < length xs → is_hex_digit (get_or xs k 0) ≡ true
digit_at xs all k lt = all k 0 lt

-- and zeros are spelled so
pub zero_digits : (digits bytes : List ℕ) → decode_of digits ≡ Ok bytes → bytes ≡ replicate (length bytes) 0
    → (k : ℕ) → k < length digits → get_or digits k 0 ≡ 48
zero_digits digits bytes is zeros k lt =
    let known = decode_of-ok digits bytes is in
    let n = length bytes in
    let spelled : map lower_of digits ≡ replicate (2 * n) 48 = lowered_digits digits bytes is ∙ ap encode_lower zeros ∙ zeros_spelled n in
    let here : lower_of (get_or digits k 0) ≡ 48 =
    sym (get_or-map lower_of digits k 0 0 lt) ∙ ap (λ (l : List ℕ). get_or l k 0) spelled ∙ get_or-replicate (2 * n) k 48 0 (omega (arith, lt, known.2)) in
    zero_digit (get_or digits k 0) (digit_at digits known.1 k lt) here
