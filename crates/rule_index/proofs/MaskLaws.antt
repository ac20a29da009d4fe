-- Masks joined, pushed to and searched.
use Rattle.std.proofs.Common.{◌≡◌, ◌≢◌, ◌==◌, ℕ, zero, suc, ◌+◌, ◌*◌, ◌/◌, ◌%◌, ◌^◌, ◌<◌, ◌≤◌, Bool, true, false, ◌&&◌, ◌||◌, cond, List, [], ◌∷◌, ◌++◌, Some, None, length, map, get_or, set, refl, ap, sym, ◌∙◌, arith, bit_and, bit_or, ◌⊎◌, inl, inr}
use Rattle.std.specs.Prelude.{slice_get}
use Rattle.std.proofs.lemmas.Nat.{and_block, or_block}
use lib.Bits.{or_shifted_r}
use lib.Count.{count_trailing_zeros, trailing_of_zero, under}
use Rattle.std.proofs.Math.Nat.{pow-suc}
use Rattle.std.proofs.lemmas.Bool.Decides.{eqb_tells}
use Rattle.std.proofs.lemmas.Grind.{get_or-set_at}
use Rattle.std.proofs.lemmas.List.{get_or-set_other, length-set}
use Rattle.rule_index.specs.Masks.{bit_of, mask_of, first, AreGroups}

-- ---- two masks joined

bit_of-and : (a b : Bool) → bit_and (bit_of a) (bit_of b) ≡ bit_of (a && b)
bit_of-and true true = refl
bit_of-and true false = refl
bit_of-and false true = refl
bit_of-and false false = refl

bit_of-or : (a b : Bool) → bit_or (bit_of a) (bit_of b) ≡ bit_of (a || b)
bit_of-or true true = refl
bit_of-or true false = refl
bit_of-or false true = refl
bit_of-or false false = refl

bit_of-below : (a : Bool) → bit_of a < 2
bit_of-below true = omega arith
bit_of-below false = omega arith

pub mask-and : {A : Type 0} (p q : A → Bool) (xs : List A) → bit_and (mask_of p xs) (mask_of q xs) ≡ mask_of (λ x. p x && q x) xs
unfolding mask_of
mask-and p q [] = refl
mask-and p q (x ∷ xs) =
    and_block 1 (mask_of p xs) (mask_of q xs) (bit_of (p x)) (bit_of (q x)) (bit_of-below (p x)) (bit_of-below (q x))
    ∙ rw (mask-and p q xs, bit_of-and (p x) (q x)) refl

pub mask-or : {A : Type 0} (p q : A → Bool) (xs : List A) → bit_or (mask_of p xs) (mask_of q xs) ≡ mask_of (λ x. p x || q x) xs
unfolding mask_of
mask-or p q [] = refl
mask-or p q (x ∷ xs) =
    or_block 1 (mask_of p xs) (mask_of q xs) (bit_of (p x)) (bit_of (q x)) (bit_of-below (p x)) (bit_of-below (q x))
    ∙ rw (mask-or p q xs, bit_of-or (p x) (q x)) refl

-- ---- one mask

pub mask-below : {A : Type 0} (p : A → Bool) (xs : List A) → mask_of p xs < 2 ^ length xs
unfolding mask_of
mask-below p [] = omega arith
mask-below p (x ∷ xs) = let rest = mask-below p xs in let low = bit_of-below (p x) in let twice = pow-suc 2 (length xs) in omega arith

pub mask-same : {A : Type 0} (p q : A → Bool) (xs : List A) → ((x : A) → p x ≡ q x) → mask_of p xs ≡ mask_of q xs
unfolding mask_of
mask-same p q [] same = refl
mask-same p q (x ∷ xs) same = rw (mask-same p q xs same, same x) refl

pub mask-map : {A B : Type 0} (p : B → Bool) (f : A → B) (xs : List A) → mask_of p (map f xs) ≡ mask_of (λ x. p (f x)) xs
unfolding mask_of
mask-map p f [] = refl
mask-map p f (x ∷ xs) = let rest = mask-map p f xs in rw rest refl

pub mask-none : {A : Type 0} (xs : List A) → mask_of (λ x. false) xs ≡ 0
unfolding mask_of
mask-none [] = refl
mask-none (x ∷ xs) = let rest = mask-none xs in rw rest refl

pub mask-push : {A : Type 0} (p : A → Bool) (xs : List A) (x : A) → mask_of p (xs ++ x ∷ []) ≡ mask_of p xs + bit_of (p x) * 2 ^ length xs
unfolding mask_of
mask-push p [] x = omega arith
mask-push p (y ∷ xs) x =
    let rest = mask-push p xs x in
    let twice = pow-suc 2 (length xs) in
    rw (rest, twice) (shuffled (mask_of p xs) (bit_of (p x)) (2 ^ length xs) (bit_of (p y)))
  where
    shuffled : (m d n e : ℕ) → (m + d * n) * 2 + e ≡ m * 2 + e + d * (n * 2)
    shuffled m d n e = grind arith

-- ---- groups of masks

add_bit : (m n : ℕ) → m < 2 ^ n → bit_or m (2 ^ n) ≡ m + 1 * 2 ^ n
add_bit m n below = ap (bit_or m) one ∙ or_shifted_r 1 n m below ∙ omega arith
  where
    one : 2 ^ n ≡ 1 * 2 ^ n
    one = omega arith

pub mask-set : {A : Type 0} (p : A → Bool) (xs : List A) (x : A) (m : ℕ) → m ≡ mask_of p xs → p x ≡ true
    → bit_or m (2 ^ length xs) ≡ mask_of p (xs ++ x ∷ [])
mask-set p xs x m is passes =
    let below : m < 2 ^ length xs = rw is (mask-below p xs) in
    let one : bit_of (p x) ≡ 1 = ap bit_of passes in
    add_bit m (length xs) below ∙ sym (mask-push p xs x ∙ rw (one, sym is) refl)

pub mask-keep : {A : Type 0} (p : A → Bool) (xs : List A) (x : A) → p x ≡ false → mask_of p xs ≡ mask_of p (xs ++ x ∷ [])
mask-keep p xs x fails =
    let none : bit_of (p x) ≡ 0 = ap bit_of fails in
    sym (mask-push p xs x ∙ rw none (omega arith))

pub groups-push : {A : Type 0} (key : A → ℕ) (masks : List ℕ) (xs : List A) (x : A) → key x < length masks → AreGroups key masks xs
    → AreGroups key (set masks (key x) (bit_or (get_or masks (key x) 0) (2 ^ length xs))) (xs ++ x ∷ [])
groups-push {A} key masks xs x inside groups = λ k within. by_case k (rw length-set at within) (eqb_tells (key x) k)
  where
    test : ℕ → A → Bool
    test k y = key y == k

    by_case : (k : ℕ) → k < length masks → ((key x == k) ≡ true × (key x ≡ k)) ⊎ ((key x == k) ≡ false × (key x ≢ k))
        → get_or (set masks (key x) (bit_or (get_or masks (key x) 0) (2 ^ length xs))) k 0 ≡ mask_of (test k) (xs ++ x ∷ [])
    by_case k within (inl same) =
        let old = get_or masks (key x) 0 in
        let below : old < 2 ^ length xs = rw (groups (key x) inside) (mask-below (test (key x)) xs) in
        let is : bit_of (test k x) ≡ 1 = ap bit_of same.0 in
        get_or-set_at masks (key x) k (bit_or old (2 ^ length xs)) 0 (sym same.1) inside
        ∙ add_bit old (length xs) below
        ∙ ap (λ m. m + 1 * 2 ^ length xs) (ap (λ i. get_or masks i 0) same.1 ∙ groups k within)
        ∙ sym (mask-push (test k) xs x ∙ rw is refl)
    by_case k within (inr other) =
        let is : bit_of (test k x) ≡ 0 = ap bit_of other.0 in
        get_or-set_other masks (key x) k (bit_or (get_or masks (key x) 0) (2 ^ length xs)) 0 (λ e. other.1 (sym e))
        ∙ groups k within
        ∙ sym (mask-push (test k) xs x ∙ rw is (omega arith))

-- the same, as code has it
pub groups-grow : {A : Type 0} (key : A → ℕ) (masks new : List ℕ) (xs : List A) (x : A) (at place : ℕ)
    → at ≡ key x → at < length masks → length xs ≡ place → new ≡ set masks at (bit_or (get_or masks at 0) (2 ^ place))
    → AreGroups key masks xs → AreGroups key new (xs ++ x ∷ [])
groups-grow key masks new xs x at place is inside long made groups =
    let pushed : AreGroups key (set masks (key x) (bit_or (get_or masks (key x) 0) (2 ^ length xs))) (xs ++ x ∷ []) =
    groups-push key masks xs x (rw is at inside) groups in
    rw (made, is, sym long) pushed

-- ---- the lowest bit

pub low : (m : ℕ) (b : Bool) → (m * 2 + bit_of b) % 2 ≡ bit_of b
low m true = omega arith
low m false = omega arith

pub high : (m : ℕ) (b : Bool) → (m * 2 + bit_of b) / 2 ≡ m
high m true = omega arith
high m false = omega arith

-- the element at the lowest bit of a mask is the first that passes
pub first-at : {A : Type 0} (p : A → Bool) (xs : List A) (k : ℕ) → length xs ≤ k → slice_get xs (count_trailing_zeros k (mask_of p xs)) ≡ first p xs
unfolding mask_of count_trailing_zeros
first-at p [] k few = refl
first-at p (x ∷ xs) zero few = absurd (omega arith)
first-at {A} p (x ∷ xs) (suc k) few =
    rw (low (mask_of p xs) (p x), high (mask_of p xs) (p x)) (by_case (first-at p xs k (omega arith)) (p x))
  where
    by_case : slice_get xs (count_trailing_zeros k (mask_of p xs)) ≡ first p xs → (b : Bool) → slice_get (x ∷ xs) (under (bit_of b) (count_trailing_zeros k (mask_of p xs))) ≡ cond b (Some x) (first p xs)
    by_case rest true = refl
    by_case rest false = rest

-- where none passes, no bit is found
pub none-at : {A : Type 0} (p : A → Bool) (xs : List A) (k : ℕ) → first p xs ≡ None → count_trailing_zeros k (mask_of p xs) ≡ k
unfolding mask_of count_trailing_zeros
none-at p [] k none = trailing_of_zero k
none-at p (x ∷ xs) zero none = refl
none-at {A} p (x ∷ xs) (suc k) none =
    rw (low (mask_of p xs) (p x), high (mask_of p xs) (p x)) (by_case (none-at p xs k) (p x) none)
  where
    by_case : (first p xs ≡ None → count_trailing_zeros k (mask_of p xs) ≡ k) → (b : Bool) → cond b (Some x) (first p xs) ≡ None
        → under (bit_of b) (count_trailing_zeros k (mask_of p xs)) ≡ suc k
    by_case rest true none = cc
    by_case rest false none = ap suc (rest none)

-- ---- a list of masks that is filled

-- one mask more
pub set-next : (f : ℕ → ℕ) (xs : List ℕ) (n v : ℕ) → n < length xs → v ≡ f n → ((k : ℕ) → k < n → get_or xs k 0 ≡ f k)
    → (k : ℕ) → k < n + 1 → get_or (set xs n v) k 0 ≡ f k
set-next f xs n v inside value before k h = by_case (eqb_tells k n)
  where
    by_case : ((k == n) ≡ true × (k ≡ n)) ⊎ ((k == n) ≡ false × (k ≢ n)) → get_or (set xs n v) k 0 ≡ f k
    by_case (inl a) = get_or-set_at xs n k v 0 a.1 inside ∙ value ∙ ap f (sym a.1)
    by_case (inr a) = get_or-set_other xs n k v 0 a.1 ∙ before k (omega (arith, h, a.1))

-- one mask more, where D tells which are there
set-one : (D : ℕ → Type 0) (f : ℕ → ℕ) (xs : List ℕ) (n v : ℕ) → n < length xs → v ≡ f n → ((k : ℕ) → D k → get_or xs k 0 ≡ f k)
    → (k : ℕ) → (k ≢ n → D k) → get_or (set xs n v) k 0 ≡ f k
set-one D f xs n v inside value before k other = by_case (eqb_tells k n)
  where
    by_case : ((k == n) ≡ true × (k ≡ n)) ⊎ ((k == n) ≡ false × (k ≢ n)) → get_or (set xs n v) k 0 ≡ f k
    by_case (inl a) = get_or-set_at xs n k v 0 a.1 inside ∙ value ∙ ap f (sym a.1)
    by_case (inr a) = get_or-set_other xs n k v 0 a.1 ∙ before k (other a.1)

-- four masks more of 64, each 16 behind the one before
pub set-four : (f : ℕ → ℕ) (xs : List ℕ) (n a b c d : ℕ) → length xs ≡ 64 → n < 16
    → a ≡ f n → b ≡ f (16 + n) → c ≡ f (32 + n) → d ≡ f (48 + n)
    → ((k : ℕ) → (k < 64) × (k % 16 < n) → get_or xs k 0 ≡ f k)
    → (k : ℕ) → (k < 64) × (k % 16 < n + 1) → get_or (set (set (set (set xs n a) (16 + n) b) (32 + n) c) (48 + n) d) k 0 ≡ f k
set-four f xs n a b c d long few is_a is_b is_c is_d before k h =
    let A : ℕ → Type 0 = λ k. (k < 64) × (k % 16 < n) in
    let B : ℕ → Type 0 = λ k. k ≢ n → A k in
    let C : ℕ → Type 0 = λ k. k ≢ 16 + n → B k in
    let D : ℕ → Type 0 = λ k. k ≢ 32 + n → C k in
    let one = set xs n a in
    let two = set one (16 + n) b in
    let three = set two (32 + n) c in
    let long_1 : length one ≡ 64 = length-set xs n a ∙ long in
    let long_2 : length two ≡ 64 = length-set one (16 + n) b ∙ long_1 in
    let long_3 : length three ≡ 64 = length-set two (32 + n) c ∙ long_2 in
    let is_1 = set-one A f xs n a (omega (arith, few, long)) is_a before in
    let is_2 = set-one B f one (16 + n) b (omega (arith, few, long_1)) is_b is_1 in
    let is_3 = set-one C f two (32 + n) c (omega (arith, few, long_2)) is_c is_2 in
    set-one D f three (48 + n) d (omega (arith, few, long_3)) is_d is_3 k
    (λ w x y z. (h.0, omega (arith, few, h.0, h.1, w, x, y, z)))
