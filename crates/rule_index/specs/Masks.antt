-- Masks: bit number j stands for element number j of a list.
use Rattle.std.specs.Prelude.{◌≡◌, ◌<◌, ℕ, ◌+◌, ◌*◌, ◌/◌, ◌%◌, ◌^◌, Bool, List, [], ◌∷◌, Option, Some, None, if◌then◌else◌, ◌==◌, length, slice_index_or}

abbrev pub bit_of : Bool → ℕ
bit_of b = if b then 1 else 0

-- the number whose bit j is set exactly where element number j passes
unfoldable pub mask_of : {A : Type 0} → (A → Bool) → List A → ℕ
mask_of p [] = 0
mask_of p (x ∷ xs) = mask_of p xs * 2 + bit_of (p x)

-- the first element that passes
abbrev pub first : {A : Type 0} → (A → Bool) → List A → Option A
first p [] = None
first p (x ∷ xs) = if p x then Some x else first p xs

-- the mask at number k is of the elements with the key k
abbrev pub AreGroups : {A : Type 0} → (A → ℕ) → List ℕ → List A → Type 0
AreGroups key masks xs = (k : ℕ) → k < length masks → slice_index_or masks k 0 ≡ mask_of (λ x. key x == k) xs

-- a mask with one bit more at a place: the bits from there on move up by one, and 128 of them are kept
abbrev pub with_bit : ℕ → Bool → ℕ → ℕ
with_bit place set mask = (mask % 2 ^ place + (mask / 2 ^ place * 2 + bit_of set) * 2 ^ place) % 2 ^ 128

-- a mask without the bit at a place: the bits behind it move down by one
abbrev pub without_bit : ℕ → ℕ → ℕ
without_bit place mask = mask % 2 ^ place + mask / 2 ^ place / 2 * 2 ^ place

-- one element is to stand at a place between others, and then there are at most 128
pub record IsBetween {A : Type 0} (before after : List A) (place : ℕ) : Type 0 where
  pub at : length before ≡ place
  pub room : length before + length after < 128
