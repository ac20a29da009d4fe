-- Whether a number stands among numbers, by its place.
use Rattle.std.proofs.Common.{◌≡◌, ℕ, suc, ◌+◌, ◌||◌, ◌==◌, ◌++◌, Bool, true, false, cond, List, [], ◌∷◌, Some, None, is_some, length, nat_lt, refl, ap, ◌∙◌, arith}
use Rattle.std.specs.Prelude.{position}
use Rattle.std.specs.List.{list_any, position_or_len}
use Rattle.std.proofs.lemmas.Bool.{le-ltb, lt-ltb, ltb-false, ltb-true}
use Rattle.std.proofs.lemmas.List.Folds.{list_any-append}
use Rattle.bench_history.specs.History.{is_among}

one_behind : (a b : ℕ) → nat_lt (1 + a) (suc b) ≡ nat_lt a b
one_behind a b =
    elim (nat_lt a b) as (λ t. nat_lt a b ≡ t → nat_lt (1 + a) (suc b) ≡ t) [
      | true ↦ λ is. let lt = ltb-true a b is in lt-ltb (1 + a) (suc b) (omega (arith, lt))
      | false ↦ λ is. let le = ltb-false a b is in le-ltb (1 + a) (suc b) (omega (arith, le))
    ] refl

within : (p : ℕ → Bool) (xs : List ℕ) → nat_lt (position_or_len p xs) (length xs) ≡ list_any p xs
within p [] = refl
within p (x ∷ xs) =
    elim (p x) as (λ b. p x ≡ b → nat_lt (position_or_len p (x ∷ xs)) (length (x ∷ xs)) ≡ list_any p (x ∷ xs)) [
      | true ↦ λ is. rw is (lt-ltb 0 (suc (length xs)) (omega arith))
      | false ↦ λ is. rw is (one_behind (position_or_len p xs) (length xs) ∙ within p xs)
    ] refl

some_if : (b : Bool) (n : ℕ) → is_some (cond b (Some n) None) ≡ b
some_if true n = refl
some_if false n = refl

-- a number has a place among others just where it is one of them
pub placed : (p : ℕ → Bool) (xs : List ℕ) → is_some (position p xs) ≡ list_any p xs
placed p xs = some_if (nat_lt (position_or_len p xs) (length xs)) (position_or_len p xs) ∙ within p xs

-- one of numbers is one of those in front of a place, or of those behind
pub in_parts : (n : ℕ) (front behind all : List ℕ) → all ≡ front ++ behind → is_among all n ≡ (is_among front n || is_among behind n)
in_parts n front behind all is = ap (λ (xs : List ℕ). is_among xs n) is ∙ list_any-append (λ m. m == n) front behind

pub behind_is : (a b : Bool) → true ≡ b → true ≡ (a || b)
behind_is true b is = refl
behind_is false b is = is

pub front_is : (a b : Bool) → true ≡ a → true ≡ (a || b)
front_is a b is = ap (λ (x : Bool). x || b) is

pub neither_is : (a b : Bool) → false ≡ a → false ≡ b → false ≡ (a || b)
neither_is a b none is = is ∙ ap (λ (x : Bool). x || b) none
