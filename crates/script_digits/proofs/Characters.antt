-- What arithmetic says of each character and each byte, compared case by case with the definitions.
use Rattle.std.proofs.Common.{◌≡◌, ◌==◌, ℕ, zero, suc, ◌+◌, ◌*◌, ◌/◌, ◌%◌, ◌<◌, Bool, true, false, ◌&&◌, ◌||◌, not, nat_lt, bit_and, bit_or, slice_index, inl, inr, refl, sym, arith}
use Rattle.std.proofs.lemmas.Bool.{and_parts, cases_lt, eqb-true}
use Rattle.hex.specs.Hex.{is_hex_digit, lower_digits}

-- whether a test passes for each number below n
abbrev pub all_below : (ℕ → Bool) → ℕ → Bool
all_below test zero = true
all_below test (suc n) = test n && all_below test n

pub at : (test : ℕ → Bool) (n k : ℕ) → all_below test n ≡ true → k < n → test k ≡ true
at test zero k h lt = absurd (omega arith)
at test (suc n) k h lt =
    let parts = and_parts (test n) (all_below test n) h in
    elim (cases_lt k n) [
      | inl below ↦ at test n k parts.1 below
      | inr top ↦
          let e : k ≡ n = omega arith in
          rw e parts.0
    ]

-- ---- characters

-- a character less that of the numeral 0 is under ten, or, in lower case and less that of the letter a, under six
abbrev pub is_digit_by_differences : ℕ → Bool
is_digit_by_differences c = nat_lt ((c + 208) % 256) 10 || nat_lt ((bit_or c 32 + 159) % 256) 6

-- whether two answers are one
abbrev same_answer : Bool → Bool → Bool
same_answer true b = b
same_answer false b = not b

same_from_answer : (a b : Bool) → same_answer a b ≡ true → a ≡ b
same_from_answer true b h = sym h
same_from_answer false true h = cc
same_from_answer false false h = refl

abbrev is_told : ℕ → Bool
is_told c = same_answer (is_digit_by_differences c) (is_hex_digit c)

all_told : all_below is_told 256 ≡ true
all_told = refl

pub digit_by_differences : (c : ℕ) → c < 256 → is_digit_by_differences c ≡ is_hex_digit c
digit_by_differences c fits =
    same_from_answer (is_digit_by_differences c) (is_hex_digit c) (at is_told 256 c all_told fits)

-- ---- bytes

-- the two digits of a byte in one number, the higher in its low half
abbrev pub digits_by_sums : ℕ → ℕ
digits_by_sums b =
    let values = b / 16 + b % 16 * 256 in values + 12336 + bit_and ((values + 1542) / 16) 257 * 39

abbrev is_spelled : ℕ → Bool
is_spelled b =
    digits_by_sums b % 256 == slice_index lower_digits (b / 16) && digits_by_sums b / 256 == slice_index lower_digits (b % 16)

all_spelled : all_below is_spelled 256 ≡ true
all_spelled = refl

pub digits_by_sums-both : (b : ℕ) → b < 256
    → (digits_by_sums b % 256 ≡ slice_index lower_digits (b / 16)) × (digits_by_sums b / 256 ≡ slice_index lower_digits (b % 16))
digits_by_sums-both b fits =
    let parts =
    and_parts (digits_by_sums b % 256 == slice_index lower_digits (b / 16)) (digits_by_sums b / 256 == slice_index lower_digits (b % 16)) (at is_spelled 256 b all_spelled fits) in (
      eqb-true (digits_by_sums b % 256) (slice_index lower_digits (b / 16)) parts.0,
      eqb-true (digits_by_sums b / 256) (slice_index lower_digits (b % 16)) parts.1,
    )
