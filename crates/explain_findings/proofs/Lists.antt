-- Numbers among numbers, and what holds of each of the findings that are put together.
use Rattle.std.proofs.Common.{◌≡◌, ◌==◌, ℕ, Bool, true, false, ◌||◌, List, [], ◌∷◌, ◌++◌, Option, Some, None, map, refl, ap, ◌∙◌, subst}
use Rattle.std.specs.Prelude.{All, IfSome, find, if◌then◌else◌}
use Rattle.std.specs.List.{cons_option, filter_map, flat_map, list_all, list_any}
use Rattle.std.proofs.lemmas.Bool.{and_parts, eq-eqb, eqb-true, false≢true, or_left, or_right}
use Rattle.std.proofs.lemmas.List.Folds.{list_any-append}
use Rattle.std.proofs.lemmas.List.Elements.{All-append, All-cons, All-nil}

-- ---- a number among numbers

abbrev pub has : List ℕ → ℕ → Bool
has xs n = list_any (λ m. m == n) xs

pub has_left : (xs ys : List ℕ) (n : ℕ) → has xs n ≡ true → has (xs ++ ys) n ≡ true
has_left xs ys n among = list_any-append (λ m. m == n) xs ys ∙ or_left (has xs n) (has ys n) among

pub has_right : (xs ys : List ℕ) (n : ℕ) → has ys n ≡ true → has (xs ++ ys) n ≡ true
has_right xs ys n among = list_any-append (λ m. m == n) xs ys ∙ or_right (has xs n) (has ys n) among

-- with one more before it
behind : (o : Option ℕ) (ys : List ℕ) (n : ℕ) → has ys n ≡ true → has (cons_option o ys) n ≡ true
behind None ys n among = among
behind (Some m) ys n among = or_right (m == n) (has ys n) among

-- an item that passes a test gives the number
pub has_given : {X : Type 0} (test : X → Bool) (f : X → Option ℕ) (n : ℕ) (xs : List X) → ((x : X) → test x ≡ true → f x ≡ Some n)
    → list_any test xs ≡ true → has (filter_map f xs) n ≡ true
has_given test f n [] gives any = absurd (false≢true any)
has_given test f n (x ∷ xs) gives any = by_case (has_given test f n xs gives) (test x) refl any
  where
    by_case : (list_any test xs ≡ true → has (filter_map f xs) n ≡ true) → (b : Bool) → test x ≡ b → (b || list_any test xs) ≡ true
        → has (cons_option (f x) (filter_map f xs)) n ≡ true
    by_case later true is any = rw (gives x is) (or_left (n == n) _ (eq-eqb n n refl))
    by_case later false is any = behind (f x) (filter_map f xs) n (later any)

-- a number that is among them gives the number
pub has_mapped : (f : ℕ → Option ℕ) (xs : List ℕ) (q n : ℕ) → has xs q ≡ true → f q ≡ Some n → has (filter_map f xs) n ≡ true
has_mapped f xs q n among is = has_given (λ m. m == q) f n xs (λ m same. ap f (eqb-true m q same) ∙ is) among

pub has_joined : (f : ℕ → List ℕ) (xs : List ℕ) (q n : ℕ) → has xs q ≡ true → has (f q) n ≡ true → has (flat_map f xs) n ≡ true
has_joined f [] q n among there = absurd (false≢true among)
has_joined f (x ∷ xs) q n among there = by_case (λ later. has_joined f xs q n later there) (x == q) refl among
  where
    by_case : (has xs q ≡ true → has (flat_map f xs) n ≡ true) → (b : Bool) → (x == q) ≡ b → (b || has xs q) ≡ true → has (f x ++ flat_map f xs) n ≡ true
    by_case later true is among = has_left (f x) (flat_map f xs) n (rw (eqb-true x q is) there)
    by_case later false is among = has_right (f x) (flat_map f xs) n (later among)

-- ---- what is found in a list

-- it passes the test that found it, and each that all pass
pub find_passes : {X : Type 0} (p : X → Bool) (xs : List X) (x : X) → find p xs ≡ Some x → p x ≡ true
find_passes p [] x is = cc
find_passes {X} p (y ∷ ys) x is = by_case (find_passes p ys x) (p y) refl is
  where
    by_case : (find p ys ≡ Some x → p x ≡ true) → (b : Bool) → p y ≡ b → (if b then Some y else find p ys) ≡ Some x → p x ≡ true
    by_case later true pass is = let same : y ≡ x = cc in subst (λ (z : X). p z ≡ true) same pass
    by_case later false pass is = later is

pub find_all : {X : Type 0} (p q : X → Bool) (xs : List X) (x : X) → find p xs ≡ Some x → list_all q xs ≡ true → q x ≡ true
find_all p q [] x is all = cc
find_all {X} p q (y ∷ ys) x is all = by_case (λ later. find_all p q ys x later (and_parts (q y) (list_all q ys) all).1) (p y) is
  where
    by_case : (find p ys ≡ Some x → q x ≡ true) → (b : Bool) → (if b then Some y else find p ys) ≡ Some x → q x ≡ true
    by_case later true is = let same : y ≡ x = cc in subst (λ (z : X). q z ≡ true) same (and_parts (q y) (list_all q ys) all).0
    by_case later false is = later is

-- ---- what holds of each

module _ {Y : Type 0} (P : Y → Type 0) where
  cons_holds : (o : Option Y) (ys : List Y) → IfSome o P → All P ys → All P (cons_option o ys)
  cons_holds None ys here rest = rest
  cons_holds (Some y) ys here rest = All-cons P y ys here rest

  pub all_given : {X : Type 0} (f : X → Option Y) → ((x : X) → IfSome (f x) P) → (xs : List X) → All P (filter_map f xs)
  all_given f each [] = All-nil P
  all_given f each (x ∷ xs) = cons_holds (f x) (filter_map f xs) (each x) (all_given f each xs)

  pub all_joined : {X : Type 0} (f : X → List Y) → ((x : X) → All P (f x)) → (xs : List X) → All P (flat_map f xs)
  all_joined f each [] = All-nil P
  all_joined f each (x ∷ xs) = All-append P (f x) (flat_map f xs) (each x) (all_joined f each xs)

  -- it holds of those that there are
  abbrev pub AllSome : List (Option Y) → Type 0
  AllSome [] = Unit {0}
  AllSome (o ∷ os) = IfSome o P × AllSome os

  pub all_found : (os : List (Option Y)) → AllSome os → All P (filter_map (λ f. f) os)
  all_found [] each = All-nil P
  all_found (o ∷ os) each = cons_holds o (filter_map (λ f. f) os) each.0 (all_found os each.1)

  pub all_mapped : {X : Type 0} (f : X → Option Y) → ((x : X) → IfSome (f x) P) → (xs : List X) → All P (filter_map (λ f. f) (map f xs))
  all_mapped f each [] = All-nil P
  all_mapped f each (x ∷ xs) = cons_holds (f x) _ (each x) (all_mapped f each xs)
