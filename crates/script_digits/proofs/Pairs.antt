-- The values of two digits, side by side in one number.
use Rattle.std.proofs.Common.{◌≡◌, ℕ, ◌+◌, ◌*◌, ◌/◌, ◌%◌, ◌<◌, ◌^◌, true, Some, Ok, bit_and, refl, sym, ap, ◌∙◌, arith}
use Rattle.std.proofs.lemmas.Nat.{and_block, and_mask}
use Rattle.hex.specs.Hex.{digit_or_error, hex_digit_value, is_hex_digit, pair_value, value_at}

-- the value of a digit: its low four bits, and nine more where it is a letter
abbrev pub value_by_bits : ℕ → ℕ
value_by_bits c = c % 16 + 9 * (c / 64)

-- what the masks leave of two characters in one number
pub masked : (high low : ℕ) → high < 256 → low < 256
    → bit_and (low * 256 + high) 3855 + 9 * bit_and ((low * 256 + high) / 64) 771 ≡ value_by_bits low * 256 + value_by_bits high
masked high low fits_high fits_low =
    let rest : ℕ = low % 64 * 4 + high / 64 in
    let four : bit_and (low * 2 ^ 8 + high) (15 * 2 ^ 8 + 15) ≡ bit_and low 15 * 2 ^ 8 + bit_and high 15 = and_block 8 low 15 high 15 (omega arith) (omega arith) in
    let two : bit_and (low / 64 * 2 ^ 8 + rest) (3 * 2 ^ 8 + 3) ≡ bit_and (low / 64) 3 * 2 ^ 8 + bit_and rest 3 = and_block 8 (low / 64) 3 rest 3 (omega arith) (omega arith) in
    let shifted : (low * 256 + high) / 64 ≡ low / 64 * 256 + rest = omega arith in
    let a : bit_and low 15 ≡ low % 16 = and_mask low 4 in
    let b : bit_and high 15 ≡ high % 16 = and_mask high 4 in
    let c : bit_and (low / 64) 3 ≡ low / 64 % 4 = and_mask (low / 64) 2 in
    let d : bit_and rest 3 ≡ rest % 4 = and_mask rest 2 in
    rw (shifted, four, two, a, b, c, d) (omega arith)

-- a digit has that value
value_of_digit : (c : ℕ) → is_hex_digit c ≡ true → hex_digit_value c ≡ Some (value_by_bits c)
value_of_digit c h = grind arith

pub value_lt : (c : ℕ) → is_hex_digit c ≡ true → value_by_bits c < 16
value_lt c h = grind arith

-- the byte of two values, the first of which stands for the higher digit
abbrev pub byte_by_bits : ℕ → ℕ
byte_by_bits values = values % 16 * 16 + values / 256

pub byte_of_values : (first second : ℕ) → first < 16 → second < 16 → byte_by_bits (second * 256 + first) ≡ first * 16 + second
byte_of_values first second h k = omega arith

pub byte_of_pair : (high low place : ℕ) → is_hex_digit high ≡ true → is_hex_digit low ≡ true
    → pair_value high low place ≡ Ok (byte_by_bits (value_by_bits low * 256 + value_by_bits high))
byte_of_pair high low place first second =
    let eh : value_at high place ≡ Ok (value_by_bits high) = ap (digit_or_error high place) (value_of_digit high first) in
    let el : value_at low (place + 1) ≡ Ok (value_by_bits low) = ap (digit_or_error low (place + 1)) (value_of_digit low second) in
    let pair : pair_value high low place ≡ Ok (value_by_bits high * 16 + value_by_bits low) = rw (eh, el) refl in
    pair ∙ ap Ok (sym (byte_of_values (value_by_bits high) (value_by_bits low) (value_lt high first) (value_lt low second)))

pub byte_by_bits_lt : (high low : ℕ) → is_hex_digit high ≡ true → is_hex_digit low ≡ true
    → byte_by_bits (value_by_bits low * 256 + value_by_bits high) < 256
byte_by_bits_lt high low first second =
    let h = value_lt high first in
    let k = value_lt low second in
    rw (byte_of_values (value_by_bits high) (value_by_bits low) h k) (omega arith)
