-- What passes several tests.
use Rattle.std.proofs.Common.{◌≡◌, ◌<◌, ℕ, ◌&&◌, Bool, true, false, cond, List, [], ◌∷◌, refl, ap, ◌∙◌}
use Rattle.std.specs.Prelude.{filter, nat_lt}
use Rattle.std.specs.List.{list_all}
use Rattle.std.proofs.Math.Path.{fun_ext}
use Rattle.std.proofs.lemmas.Bool.{and_parts, ltb-true}

module _ {X : Type 0} where
  -- what passes one test and then another passes both
  pub filter_both : (p q : X → Bool) (xs : List X) → filter q (filter p xs) ≡ filter (λ x. p x && q x) xs
  filter_both p q [] = refl
  filter_both p q (x ∷ xs) = here (p x) (filter_both p q xs)
    where
      here : (b : Bool) → filter q (filter p xs) ≡ filter (λ y. p y && q y) xs
          → filter q (cond b (x ∷ filter p xs) (filter p xs)) ≡ cond (b && q x) (x ∷ filter (λ y. p y && q y) xs) (filter (λ y. p y && q y) xs)
      here true is = ap (λ (ys : List X). cond (q x) (x ∷ ys) ys) is
      here false is = is

  pub filter_alike : (p q : X → Bool) → ((x : X) → p x ≡ q x) → (xs : List X) → filter p xs ≡ filter q xs
  filter_alike p q same xs = ap (λ (test : X → Bool). filter test xs) (fun_ext same)

-- the stricter of two tests
pub stricter : (b c : Bool) → (c ≡ true → b ≡ true) → (b && c) ≡ c
stricter true c so = refl
stricter false true so = so refl
stricter false false so = refl

pub stricter_of : (b k c : Bool) → (c ≡ true → b ≡ true) → ((b && k) && c) ≡ (c && k)
stricter_of true true true so = refl
stricter_of true true false so = refl
stricter_of true false true so = refl
stricter_of true false false so = refl
stricter_of false k true so = absurd_of (so refl)
  where
    absurd_of : {A : Type 0} → false ≡ true → A
    absurd_of bad = cc bad
stricter_of false k false so = refl

-- tests that agree below a number agree on numbers that are all below it
pub filter_below : (len : ℕ) (p q : ℕ → Bool) → ((n : ℕ) → n < len → p n ≡ q n) → (xs : List ℕ) → list_all (λ n. nat_lt n len) xs ≡ true
    → filter p xs ≡ filter q xs
filter_below len p q same [] below = refl
filter_below len p q same (n ∷ xs) below =
    let parts = and_parts (nat_lt n len) (list_all (λ m. nat_lt m len) xs) below in
    ap (λ (b : Bool). cond b (n ∷ filter p xs) (filter p xs)) (same n (ltb-true n len parts.0))
    ∙ ap (λ (ys : List ℕ). cond (q n) (n ∷ ys) ys) (filter_below len p q same xs parts.1)
