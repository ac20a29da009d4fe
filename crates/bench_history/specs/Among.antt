-- A frame that left, and is one of several.
use Rattle.std.specs.Prelude.{◌≡◌, ◌⊎◌, ℕ, ◌+◌, ◌-◌, List, [], ◌∷◌, Option, Some, None, if◌then◌else◌, Bool, true, false, ◌&&◌, ◌==◌, nat_le}
use Rattle.std.specs.List.{slice_split}
use Rattle.std.specs.Option.{option_and_then, option_map, unwrap_or}
use Rattle.bench_history.specs.Words.{number_of, numbered, seen_bytes}
use Rattle.bench_history.specs.declared.extent.Extent.{Extent}
use Rattle.bench_history.specs.declared.extent.Extent.TheVariants.{Whole, Front}

-- the bytes of a frame as it left, and the numbers of the frames of which it is one
pub record OneOf : Type 0 where
  pub frame : List ℕ
  pub numbers : List ℕ

-- how many digits a word of so many characters has: two dots stand behind those of a front
abbrev pub digits_in : Extent → ℕ → ℕ
digits_in Whole n = n
digits_in Front n = n - 2

-- the words of a text, which single spaces separate
abbrev pub words_of : List ℕ → List (List ℕ)
words_of text = slice_split (λ b. b == 32) text

-- a word is the first of a text, and stands in front of what is behind its space, or alone
abbrev pub IsFirstWord : List ℕ → List ℕ → List ℕ → Type 0
IsFirstWord text word behind = (words_of text ≡ word ∷ words_of behind) ⊎ ((words_of text ≡ word ∷ []) × (behind ≡ []))

-- the numbers that words name, if they ascend from one on
abbrev pub numbers_from : ℕ → List (List ℕ) → Option (List ℕ)
numbers_from least [] = Some []
numbers_from least (word ∷ words) =
    option_and_then (λ n. if nat_le least n then option_map (λ more. n ∷ more) (numbers_from (n + 1) words) else None) (number_of word)

-- `N N ..`: one number or more, which ascend
abbrev pub numbers_in : List ℕ → Option (List ℕ)
numbers_in text = numbers_from 0 (words_of text)

-- whether numbers ascend, from one on
abbrev pub ascend_from : ℕ → List ℕ → Bool
ascend_from least [] = true
ascend_from least (n ∷ numbers) = nat_le least n && ascend_from (n + 1) numbers

-- whether there are numbers, and they ascend
abbrev pub are_in_order : List ℕ → Bool
are_in_order [] = false
are_in_order (n ∷ numbers) = ascend_from (n + 1) numbers

-- `HEX N N ..` or `HEX.. N N ..`
abbrev pub one_of : List ℕ → Option (Extent × OneOf)
one_of text =
    option_and_then (λ seen.
    option_map (λ numbers. (seen.0.0, record { frame = seen.0.1; numbers = numbers })) (numbers_in seen.1)) (numbered seen_bytes text)

-- the same of a text that says it
abbrev pub told_in : List ℕ → OneOf
told_in text = (unwrap_or (one_of text) (Whole, record { frame = []; numbers = [] })).1

-- the numbers of a text that has some, or is empty
abbrev pub left_in : List ℕ → List ℕ
left_in text = unwrap_or (numbers_in text) []
