-- A stable sort gives the order that the definition gives.
use Rattle.std.proofs.Common.{◌≡◌, ◌≤◌, ◌<◌, ℕ, suc, Bool, true, false, cond, List, [], ◌∷◌, length, map, filter, get_or, drop, refl, ap, sym, ◌∙◌, arith, subst}
use Rattle.std.specs.Prelude.{◌==◌, nat_le, if◌then◌else◌}
use Rattle.std.specs.List.Sorted.{IsNonDecreasingBy, IsStableByKey, ties}
use Rattle.std.specs.Ordering.{is_lt, nat_cmp}
use Rattle.std.proofs.Math.Path.{fun_ext}
use Rattle.std.proofs.lemmas.Bool.{eq-eqb, eqb-true, leb-false, leb-true}
use Rattle.std.proofs.lemmas.List.Sorted.{IsNonDecreasingBy-drop}
use Rattle.bench_record.specs.Order.{in_order, placed}

-- ---- elements in order, step by step

-- no key is under a number
abbrev pub AtLeast : {X : Type 0} → (X → ℕ) → ℕ → List X → Type 0
AtLeast key n [] = Unit {0}
AtLeast key n (x ∷ xs) = (n ≤ key x) × AtLeast key n xs

-- no key is under one before it
abbrev pub Rises : {X : Type 0} → (X → ℕ) → List X → Type 0
Rises key [] = Unit {0}
Rises key (x ∷ xs) = AtLeast key (key x) xs × Rises key xs

at_least : {X : Type 0} (key : X → ℕ) (n m : ℕ) (xs : List X) → n ≤ m → AtLeast key m xs → AtLeast key n xs
at_least key n m [] below all = tt
at_least key n m (x ∷ xs) below all = (omega (arith, below, all.0), at_least key n m xs below all.1)

-- by places
at_least_from : {X : Type 0} (key : X → ℕ) (n : ℕ) (xs : List X) → ((i : ℕ) (d : X) → i < length xs → n ≤ key (get_or xs i d)) → AtLeast key n xs
at_least_from key n [] at = tt
at_least_from key n (x ∷ xs) at = (at 0 x (omega arith), at_least_from key n xs (λ i d within. at (suc i) d (omega (arith, within))))

rises_from : {X : Type 0} (key : X → ℕ) (xs : List X) → IsNonDecreasingBy key xs → Rises key xs
rises_from key [] up = tt
rises_from key (x ∷ xs) up = (
  at_least_from key (key x) xs (λ i d within. up 0 (suc i) d (omega arith) (omega (arith, within))),
  rises_from key xs (IsNonDecreasingBy-drop key 1 (x ∷ xs) up),
)

-- ---- what has one key

-- the elements whose key is that of another
abbrev alike : {X : Type 0} → (X → ℕ) → X → List X → List X
alike key x xs = filter (λ y. key x == key y) xs

tied : {X : Type 0} (key : X → ℕ) (x y : X) → ties (λ a b. is_lt (nat_cmp (key a) (key b))) x y ≡ (key x == key y)
tied key x y = grind arith

stays : {X : Type 0} (key : X → ℕ) (xs ys : List X) → IsStableByKey key nat_cmp xs ys → (x : X) → alike key x ys ≡ alike key x xs
stays key xs ys stable x =
    let same = fun_ext (λ y. tied key x y) in
    subst (λ p. filter p ys ≡ filter p xs) same (stable x)

-- one of them is no less than all
no_less : {X : Type 0} (key : X → ℕ) (n m : ℕ) (xs : List X) (y : X) (ys : List X) → AtLeast key n xs → filter (λ z. m == key z) xs ≡ y ∷ ys → n ≤ m
no_less key n m [] y ys all is = cc is
no_less key n m (x ∷ xs) y ys all is = one (m == key x) refl (no_less key n m xs y ys all.1) is
  where
    one : (b : Bool) → (m == key x) ≡ b → (filter (λ z. m == key z) xs ≡ y ∷ ys → n ≤ m)
        → cond b (x ∷ filter (λ z. m == key z) xs) (filter (λ z. m == key z) xs) ≡ y ∷ ys → n ≤ m
    one true found later is = omega (arith, all.0, eqb-true m (key x) found)
    one false found later is = later is

-- each element is the first of those that are alike, where it stands in front
first_alike : {X : Type 0} (key : X → ℕ) (x : X) (xs : List X) → alike key x (x ∷ xs) ≡ x ∷ alike key x xs
first_alike key x xs = rw (eq-eqb (key x) (key x) refl) refl

heads : {X : Type 0} (x y : X) (xs ys : List X) → x ∷ xs ≡ y ∷ ys → x ≡ y
heads x y xs ys is = ap (λ zs. get_or zs 0 x) is

-- ---- one order

-- without the first of both
pub behind : {X : Type 0} (b : Bool) (x y : X) (xs ys : List X) → cond b (x ∷ xs) xs ≡ cond b (y ∷ ys) ys → xs ≡ ys
behind true x y xs ys is = ap (drop 1) is
behind false x y xs ys is = is

no_more : {X : Type 0} (key : X → ℕ) (x : X) (xs : List X) → ((z : X) → alike key z [] ≡ alike key z (x ∷ xs)) → [] ≡ x ∷ xs
no_more key x xs same = cc (same x, first_alike key x xs)

-- lists that rise and have the same of each key are one
pub one_order : {X : Type 0} (key : X → ℕ) (xs ys : List X) → Rises key xs → Rises key ys → ((z : X) → alike key z xs ≡ alike key z ys) → xs ≡ ys
one_order key [] [] up_x up_y same = refl
one_order key [] (y ∷ ys) up_x up_y same = no_more key y ys same
one_order key (x ∷ xs) [] up_x up_y same = sym (no_more key x xs (λ z. sym (same z)))
one_order {X = X} key (x ∷ xs) (y ∷ ys) up_x up_y same =
    let x_first : alike key x (y ∷ ys) ≡ x ∷ alike key x xs = sym (same x) ∙ first_alike key x xs in
    let y_first : alike key y (x ∷ xs) ≡ y ∷ alike key y ys = same y ∙ first_alike key y ys in
    let low : key y ≤ key x = no_less key (key y) (key x) (y ∷ ys) x (alike key x xs) (omega arith, up_y.0) x_first in
    let high : key x ≤ key y = no_less key (key x) (key y) (x ∷ xs) y (alike key y ys) (omega arith, up_x.0) y_first in
    let keys : key x ≡ key y = omega (arith, low, high) in
    let firsts : x ≡ y = heads x y (alike key x xs) (alike key x ys)
    (sym x_first ∙ ap (λ b. cond b (y ∷ alike key x ys) (alike key x ys)) (eq-eqb (key x) (key y) keys)) in
    let tails : (z : X) → alike key z xs ≡ alike key z ys =
    λ z. behind (key z == key x) x y (alike key z xs) (alike key z ys)
    (same z ∙ ap (λ n. cond (key z == n) (y ∷ alike key z ys) (alike key z ys)) (sym keys)) in
    let rest = one_order key xs ys up_x.1 up_y.1 tails in
    ap (λ z. z ∷ xs) firsts ∙ ap (λ zs. y ∷ zs) rest

-- ---- the definition's order

placed_at_least : {X : Type 0} (key : X → ℕ) (n : ℕ) (x : X) (xs : List X) → n ≤ key x → AtLeast key n xs → AtLeast key n (placed key x xs)
placed_at_least key n x [] below all = (below, tt)
placed_at_least key n x (y ∷ ys) below all = here (nat_le (key x) (key y)) (placed_at_least key n x ys below all.1)
  where
    here : (b : Bool) → AtLeast key n (placed key x ys) → AtLeast key n (if b then x ∷ y ∷ ys else y ∷ placed key x ys)
    here true later = (below, all)
    here false later = (all.0, later)

placed_rises : {X : Type 0} (key : X → ℕ) (x : X) (xs : List X) → Rises key xs → Rises key (placed key x xs)
placed_rises key x [] up = (tt, tt)
placed_rises key x (y ∷ ys) up = here (nat_le (key x) (key y)) refl (placed_rises key x ys up.1)
  where
    here : (b : Bool) → nat_le (key x) (key y) ≡ b → Rises key (placed key x ys) → Rises key (if b then x ∷ y ∷ ys else y ∷ placed key x ys)
    here true found later =
        let below = leb-true (key x) (key y) found in
        ((below, at_least key (key x) (key y) ys below up.0), up)
    here false found later = (placed_at_least key (key y) x ys (omega (arith, leb-false (key x) (key y) found)) up.0, later)

-- an element that is placed behind another has another key
swapped : {X : Type 0} (n : ℕ) (b c : Bool) (x y : X) (xs : List X) → ((b ≡ true) → (c ≡ true) → ⊥)
    → cond c (y ∷ cond b (x ∷ xs) xs) (cond b (x ∷ xs) xs) ≡ cond b (x ∷ cond c (y ∷ xs) xs) (cond c (y ∷ xs) xs)
swapped n true true x y xs apart = absurd (apart refl refl)
swapped n true false x y xs apart = refl
swapped n false true x y xs apart = refl
swapped n false false x y xs apart = refl

placed_alike : {X : Type 0} (key : X → ℕ) (z x : X) (xs : List X) → alike key z (placed key x xs) ≡ alike key z (x ∷ xs)
placed_alike key z x [] = refl
placed_alike key z x (y ∷ ys) = here (nat_le (key x) (key y)) refl (placed_alike key z x ys)
  where
    here : (b : Bool) → nat_le (key x) (key y) ≡ b → alike key z (placed key x ys) ≡ alike key z (x ∷ ys)
        → alike key z (if b then x ∷ y ∷ ys else y ∷ placed key x ys) ≡ alike key z (x ∷ y ∷ ys)
    here true found later = refl
    here false found later =
        ap (λ zs. cond (key z == key y) (y ∷ zs) zs) later
        ∙ swapped (key z) (key z == key x) (key z == key y) x y (alike key z ys)
        (λ at_x at_y. omega (arith, leb-false (key x) (key y) found, eqb-true (key z) (key x) at_x, eqb-true (key z) (key y) at_y))

pub in_order_rises : {X : Type 0} (key : X → ℕ) (xs : List X) → Rises key (in_order key xs)
in_order_rises key [] = tt
in_order_rises key (x ∷ xs) = placed_rises key x (in_order key xs) (in_order_rises key xs)

in_order_alike : {X : Type 0} (key : X → ℕ) (z : X) (xs : List X) → alike key z (in_order key xs) ≡ alike key z xs
in_order_alike key z [] = refl
in_order_alike key z (x ∷ xs) =
    placed_alike key z x (in_order key xs) ∙ ap (λ ys. cond (key z == key x) (x ∷ ys) ys) (in_order_alike key z xs)

-- what a stable sort by a key gives
pub sorted_in_order : {X : Type 0} (key : X → ℕ) (xs ys : List X) → IsNonDecreasingBy key ys → IsStableByKey key nat_cmp xs ys → ys ≡ in_order key xs
sorted_in_order key xs ys up stable =
    one_order key ys (in_order key xs) (rises_from key ys up) (in_order_rises key xs)
    (λ z. stays key xs ys stable z ∙ sym (in_order_alike key z xs))

-- ---- elements that are shown as others

placed_map : {X Y : Type 0} (f : X → Y) (key : Y → ℕ) (x : X) (xs : List X) → map f (placed (λ y. key (f y)) x xs) ≡ placed key (f x) (map f xs)
placed_map f key x [] = refl
placed_map f key x (y ∷ ys) = here (nat_le (key (f x)) (key (f y))) (placed_map f key x ys)
  where
    here : (b : Bool) → map f (placed (λ y. key (f y)) x ys) ≡ placed key (f x) (map f ys)
        → map f (if b then x ∷ y ∷ ys else y ∷ placed (λ y. key (f y)) x ys) ≡ (if b then f x ∷ f y ∷ map f ys else f y ∷ placed key (f x) (map f ys))
    here true later = refl
    here false later = ap (λ zs. f y ∷ zs) later

pub in_order_map : {X Y : Type 0} (f : X → Y) (key : Y → ℕ) (xs : List X) → map f (in_order (λ x. key (f x)) xs) ≡ in_order key (map f xs)
in_order_map f key [] = refl
in_order_map f key (x ∷ xs) = placed_map f key x (in_order (λ y. key (f y)) xs) ∙ ap (placed key (f x)) (in_order_map f key xs)
