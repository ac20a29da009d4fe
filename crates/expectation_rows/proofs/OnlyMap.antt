-- In a mapping one DSCP has the priority that it is given, and each other one 0.
use Rattle.std.proofs.Common.{◌≡◌, ◌≢◌, ◌⊎◌, ⊎_elim, inl, inr, ℕ, zero, suc, ◌+◌, ◌-◌, ◌*◌, ◌/◌, ◌%◌, ◌^◌, ◌<◌, ◌≤◌, ◌==◌, Bool, true, false, List, arith, refl, ap, sym, bit_and, drop, get_or, length, length-set, set, if◌then◌else◌, ◌∙◌}
use Rattle.std.specs.Prelude.{All, nat_lt, replicate, slice_index}
use Rattle.std.proofs.Math.Nat.{mul-mod_left, zero-div}
use Rattle.std.proofs.lemmas.Bool.{cases_order, eq-eqb, eqb-false, eqb-true, ltb-false, ltb-true, ne_eqb}
use Rattle.std.proofs.lemmas.List.{get_or-replicate, get_or-set_other, get_or-set_same}
use Rattle.std.proofs.lemmas.List.Elements.{All-replicate, All-set}
use Rattle.std.proofs.lemmas.Nat.{and_mask, pow-add, shl-shr, shr-shr}
use Rattle.byteorder.specs.Endian.{big_number}
use Rattle.tag_view.specs.Dscp.{group_of}
use Rattle.tag_view.proofs.Bytes.{big_from-drop}
use Rattle.tag_view.proofs.Groups.{eight_read, group_read}
use Rattle.frame_rows.proofs.Words.{byte_fits}
use Rattle.expectation_rows.specs.Only.{eighth, only_map, three_bytes}

-- ---- three bits among eight groups

-- of a number under 8 nothing is left below three bits
below_8 : (p c : ℕ) → p < 8 → p / 2 ^ (3 * suc c) ≡ 0
below_8 p c h =
    let parts : 3 * suc c ≡ 3 + 3 * c = omega arith in
    let low : p / 2 ^ 3 ≡ 0 = omega arith in
    ap (λ (k : ℕ). p / 2 ^ k) parts ∙ sym (shr-shr p 3 (3 * c)) ∙ ap (λ (n : ℕ). n / 2 ^ (3 * c)) low ∙ zero-div (2 ^ (3 * c))

-- moved less up than down
less : (p a b : ℕ) → p < 8 → a < b → p * 2 ^ (3 * a) / 2 ^ (3 * b) ≡ 0
less p a b h below =
    let parts : 3 * b ≡ 3 * a + 3 * suc (b - a - 1) = omega arith in
    ap (λ (k : ℕ). p * 2 ^ (3 * a) / 2 ^ k) parts ∙ sym (shr-shr (p * 2 ^ (3 * a)) (3 * a) (3 * suc (b - a - 1)))
    ∙ ap (λ (n : ℕ). n / 2 ^ (3 * suc (b - a - 1))) (shl-shr p (3 * a)) ∙ below_8 p (b - a - 1) h

-- and more
more : (p a b : ℕ) → b < a → p * 2 ^ (3 * a) / 2 ^ (3 * b) % 2 ^ 3 ≡ 0
more p a b above =
    let c = a - b - 1 in
    let parts : 3 * a ≡ 3 * c + 3 + 3 * b = omega arith in
    ap (λ (k : ℕ). p * 2 ^ k / 2 ^ (3 * b) % 2 ^ 3) parts
    ∙ ap (λ (n : ℕ). p * n / 2 ^ (3 * b) % 2 ^ 3) (pow-add 2 (3 * c + 3) (3 * b))
    ∙ ap (λ (n : ℕ). n / 2 ^ (3 * b) % 2 ^ 3) (assoc p (2 ^ (3 * c + 3)) (2 ^ (3 * b)))
    ∙ ap (λ (n : ℕ). n % 2 ^ 3) (shl-shr (p * 2 ^ (3 * c + 3)) (3 * b))
    ∙ ap (λ (n : ℕ). p * n % 2 ^ 3) (pow-add 2 (3 * c) 3)
    ∙ ap (λ (n : ℕ). n % 2 ^ 3) (assoc p (2 ^ (3 * c)) (2 ^ 3))
    ∙ mul-mod_left (p * 2 ^ (3 * c)) (2 ^ 3)
  where
    assoc : (x y z : ℕ) → x * (y * z) ≡ x * y * z
    assoc x y z = omega arith

moved : (p a b : ℕ) → p < 8 → p * 2 ^ (3 * a) / 2 ^ (3 * b) % 2 ^ 3 ≡ (if a == b then p else 0)
moved p a b h = ⊎_elim same (⊎_elim below above) (cases_order a b)
  where
    same : a ≡ b → p * 2 ^ (3 * a) / 2 ^ (3 * b) % 2 ^ 3 ≡ (if a == b then p else 0)
    same e =
        ap (λ (n : ℕ). p * 2 ^ (3 * n) / 2 ^ (3 * b) % 2 ^ 3) e ∙ ap (λ (n : ℕ). n % 2 ^ 3) (shl-shr p (3 * b))
        ∙ rw (eq-eqb a b e) (omega arith)

    below : a < b → p * 2 ^ (3 * a) / 2 ^ (3 * b) % 2 ^ 3 ≡ (if a == b then p else 0)
    below lt = ap (λ (n : ℕ). n % 2 ^ 3) (less p a b h lt) ∙ rw (ne_eqb a b (λ e. omega arith)) refl

    above : b < a → p * 2 ^ (3 * a) / 2 ^ (3 * b) % 2 ^ 3 ≡ (if a == b then p else 0)
    above lt = more p a b lt ∙ rw (ne_eqb a b (λ e. omega arith)) refl

-- the group of a priority has 24 bits
moved_fits : (p k : ℕ) → p < 8 → k ≤ 7 → p * 2 ^ (3 * k) < 2 ^ 24
moved_fits p zero h most = omega arith
moved_fits p (suc zero) h most = omega arith
moved_fits p (suc (suc zero)) h most = omega arith
moved_fits p (suc (suc (suc zero))) h most = omega arith
moved_fits p (suc (suc (suc (suc zero)))) h most = omega arith
moved_fits p (suc (suc (suc (suc (suc zero))))) h most = omega arith
moved_fits p (suc (suc (suc (suc (suc (suc zero)))))) h most = omega arith
moved_fits p (suc (suc (suc (suc (suc (suc (suc zero))))))) h most = omega arith
moved_fits p (suc (suc (suc (suc (suc (suc (suc (suc k)))))))) h most = absurd (omega arith)

pub eighth_fits : (dscp priority : ℕ) → priority < 8 → eighth dscp priority < 2 ^ 24
eighth_fits dscp priority h = moved_fits priority (7 - dscp % 8) h (omega arith)

-- ---- the bytes of eight DSCPs

zeros : List ℕ
zeros = replicate 24 0

at_other : (p g i : ℕ) → i < 24 → i ≢ p → i ≢ p + 1 → i ≢ p + 2 → slice_index (three_bytes p g) i ≡ 0
at_other p g i within a b c =
    get_or-set_other (set (set (replicate 24 0) p (g / 0x10000)) (p + 1) (g / 0x100 % 0x100)) (p + 2) i (g % 0x100) 0 c
    ∙ get_or-set_other (set (replicate 24 0) p (g / 0x10000)) (p + 1) i (g / 0x100 % 0x100) 0 b
    ∙ get_or-set_other (replicate 24 0) p i (g / 0x10000) 0 a ∙ get_or-replicate 24 i 0 0 within

at_first : (p g : ℕ) → p < 24 → slice_index (three_bytes p g) p ≡ g / 0x10000
at_first p g within =
    get_or-set_other (set (set (replicate 24 0) p (g / 0x10000)) (p + 1) (g / 0x100 % 0x100)) (p + 2) p (g % 0x100) 0 (λ e. omega arith)
    ∙ get_or-set_other (set (replicate 24 0) p (g / 0x10000)) (p + 1) p (g / 0x100 % 0x100) 0 (λ e. omega arith)
    ∙ get_or-set_same (replicate 24 0) p (g / 0x10000) 0 within

at_second : (p g : ℕ) → p + 1 < 24 → slice_index (three_bytes p g) (p + 1) ≡ g / 0x100 % 0x100
at_second p g within =
    let room : p + 1 < length (set (replicate 24 0) p (g / 0x10000)) = omega (arith, length-set {A = ℕ} (replicate 24 0) p (g / 0x10000)) in
    get_or-set_other (set (set (replicate 24 0) p (g / 0x10000)) (p + 1) (g / 0x100 % 0x100)) (p + 2) (p + 1) (g % 0x100) 0 (λ e. omega arith)
    ∙ get_or-set_same (set (replicate 24 0) p (g / 0x10000)) (p + 1) (g / 0x100 % 0x100) 0 room

at_third : (p g : ℕ) → p + 2 < 24 → slice_index (three_bytes p g) (p + 2) ≡ g % 0x100
at_third p g within =
    let room : p + 2 < length (set (set (replicate 24 0) p (g / 0x10000)) (p + 1) (g / 0x100 % 0x100)) =
    omega (
      arith,
      length-set {A = ℕ} (replicate 24 0) p (g / 0x10000),
      length-set {A = ℕ} (set (replicate 24 0) p (g / 0x10000)) (p + 1) (g / 0x100 % 0x100),
    ) in
    get_or-set_same (set (set (replicate 24 0) p (g / 0x10000)) (p + 1) (g / 0x100 % 0x100)) (p + 2) (g % 0x100) 0 room

-- three bytes behind some
three_read : (k : ℕ) (xs : List ℕ) → big_number 3 (drop k xs) ≡ slice_index xs k * 65536 + slice_index xs (k + 1) * 256 + slice_index xs (k + 2)
three_read k xs =
    let first : k + 0 ≡ k = omega arith in
    let second : suc (k + 0) ≡ k + 1 = omega arith in
    let third : suc (suc (k + 0)) ≡ k + 2 = omega arith in
    big_from-drop 0 k 3 xs
    ∙ ap (λ (i : ℕ). slice_index xs i * 256 ^ 2 + (slice_index xs (suc (k + 0)) * 256 ^ 1 + (slice_index xs (suc (suc (k + 0))) * 256 ^ 0 + 0))) first
    ∙ ap (λ (i : ℕ). slice_index xs k * 256 ^ 2 + (slice_index xs i * 256 ^ 1 + (slice_index xs (suc (suc (k + 0))) * 256 ^ 0 + 0))) second
    ∙ ap (λ (i : ℕ). slice_index xs k * 256 ^ 2 + (slice_index xs (k + 1) * 256 ^ 1 + (slice_index xs i * 256 ^ 0 + 0))) third
    ∙ shape (slice_index xs k) (slice_index xs (k + 1)) (slice_index xs (k + 2))
  where
    shape : (a b c : ℕ) → a * 256 ^ 2 + (b * 256 ^ 1 + (c * 256 ^ 0 + 0)) ≡ a * 65536 + b * 256 + c
    shape a b c = omega arith

own_bytes : (q g : ℕ) → q < 8 → g < 2 ^ 24 → big_number 3 (drop (3 * q) (three_bytes (3 * q) g)) ≡ g
own_bytes q g h fits =
    three_read (3 * q) (three_bytes (3 * q) g)
    ∙ rw (at_first (3 * q) g (omega arith), at_second (3 * q) g (omega arith), at_third (3 * q) g (omega arith)) (omega arith)

other_bytes : (q q' g : ℕ) → q' < 8 → q ≢ q' → big_number 3 (drop (3 * q') (three_bytes (3 * q) g)) ≡ 0
other_bytes q q' g h apart =
    three_read (3 * q') (three_bytes (3 * q) g)
    ∙ rw (
      at_other (3 * q) g (3 * q') (omega arith) (λ e. omega arith) (λ e. omega arith) (λ e. omega arith),
      at_other (3 * q) g (3 * q' + 1) (omega arith) (λ e. omega arith) (λ e. omega arith) (λ e. omega arith),
      at_other (3 * q) g (3 * q' + 2) (omega arith) (λ e. omega arith) (λ e. omega arith) (λ e. omega arith),
    ) refl

three_fit : (p g : ℕ) → g < 2 ^ 24 → All (λ b. b < 2 ^ 8) (three_bytes p g)
three_fit p g h =
    let P : ℕ → Type 0 = λ b. b < 2 ^ 8 in
    All-set P (set (set (replicate 24 0) p (g / 0x10000)) (p + 1) (g / 0x100 % 0x100)) (p + 2) (g % 0x100) (omega arith)
    (All-set P (set (replicate 24 0) p (g / 0x10000)) (p + 1) (g / 0x100 % 0x100) (omega arith)
    (All-set P (replicate 24 0) p (g / 0x10000) (omega arith) (All-replicate P 24 0 (omega arith))))

-- ---- the group of a DSCP

group_in : (map : List ℕ) (found : ℕ) → found < 64 → All (λ b. b < 2 ^ 8) map
    → group_of map found ≡ big_number 3 (drop (3 * (found / 8)) map) / 2 ^ (3 * (7 - found % 8)) % 2 ^ 3
group_in map found below fits =
    sym (group_read map found below)
    ∙ and_mask (big_number 24 map / 2 ^ (24 * (7 - found / 8)) % 2 ^ 24 / 2 ^ (3 * (7 - found % 8))) 3
    ∙ ap (λ (n : ℕ). n / 2 ^ (3 * (7 - found % 8)) % 2 ^ 3) (sym (eight_read map (found / 8) (omega arith) (byte_fits map fits)))

-- of one of the same eight
same_eight : (dscp priority found : ℕ) → priority < 8 → found < 64 → dscp / 8 ≡ found / 8
    → eighth dscp priority / 2 ^ (3 * (7 - found % 8)) % 2 ^ 3 ≡ (if found == dscp then priority else 0)
same_eight dscp priority found low below same =
    moved priority (7 - dscp % 8) (7 - found % 8) low ∙ by_tests (7 - dscp % 8 == 7 - found % 8) (found == dscp) refl refl
  where
    by_tests : (a b : Bool) → (7 - dscp % 8 == 7 - found % 8) ≡ a → (found == dscp) ≡ b → (if a then priority else 0) ≡ (if b then priority else 0)
    by_tests true true p q = refl
    by_tests true false p q =
        let places : 7 - dscp % 8 ≡ 7 - found % 8 = eqb-true (7 - dscp % 8) (7 - found % 8) p in
        absurd (eqb-false found dscp q (omega arith))
    by_tests false true p q =
        let is : found ≡ dscp = eqb-true found dscp q in
        absurd (eqb-false (7 - dscp % 8) (7 - found % 8) p (omega arith))
    by_tests false false p q = refl

pub only_group : (dscp priority found : ℕ) → priority < 8 → found < 64
    → group_of (only_map dscp priority) found ≡ (if found == dscp then priority else 0)
unfolding only_map
only_group dscp priority found low below = by_range (nat_lt dscp 64) refl
  where
    by_range : (b : Bool) → nat_lt dscp 64 ≡ b → group_of (only_map dscp priority) found ≡ (if found == dscp then priority else 0)
    by_range false is =
        let past : 64 ≤ dscp = ltb-false dscp 64 is in
        rw (is, ne_eqb found dscp (λ e. omega arith))
        (group_in (replicate 24 0) found below (All-replicate (λ (b : ℕ). b < 2 ^ 8) 24 0 (omega arith))
        ∙ ap (λ (n : ℕ). n / 2 ^ (3 * (7 - found % 8)) % 2 ^ 3) (none_read (3 * (found / 8)) (omega arith))
        ∙ ap (λ (n : ℕ). n % 2 ^ 3) (zero-div (2 ^ (3 * (7 - found % 8)))))
      where
        zero_at : (i : ℕ) → i < 24 → slice_index (replicate 24 0) i ≡ 0
        zero_at i h = get_or-replicate 24 i 0 0 h

        none_read : (k : ℕ) → k < 22 → big_number 3 (drop k (replicate 24 0)) ≡ 0
        none_read k h =
            three_read k (replicate 24 0)
            ∙ rw (zero_at k (omega arith), zero_at (k + 1) (omega arith), zero_at (k + 2) (omega arith)) refl
    by_range true is =
        let within : dscp < 64 = ltb-true dscp 64 is in
        let fits = eighth_fits dscp priority low in
        rw is (group_in (three_bytes (3 * (dscp / 8)) (eighth dscp priority)) found below (three_fit (3 * (dscp / 8)) (eighth dscp priority) fits)
        ∙ ⊎_elim same other (cases_order_eq (dscp / 8) (found / 8)))
      where
        cases_order_eq : (a b : ℕ) → (a ≡ b) ⊎ (a ≢ b)
        cases_order_eq a b = by_test (a == b) refl
          where
            by_test : (t : Bool) → (a == b) ≡ t → (a ≡ b) ⊎ (a ≢ b)
            by_test true e = inl (eqb-true a b e)
            by_test false e = inr (eqb-false a b e)

        same : dscp / 8 ≡ found / 8
            → big_number 3 (drop (3 * (found / 8)) (three_bytes (3 * (dscp / 8)) (eighth dscp priority))) / 2 ^ (3 * (7 - found % 8)) % 2 ^ 3
            ≡ (if found == dscp then priority else 0)
        same e =
            ap (λ (k : ℕ). big_number 3 (drop (3 * k) (three_bytes (3 * (dscp / 8)) (eighth dscp priority))) / 2 ^ (3 * (7 - found % 8)) % 2 ^ 3) (sym e)
            ∙ ap (λ (n : ℕ). n / 2 ^ (3 * (7 - found % 8)) % 2 ^ 3)
            (own_bytes (dscp / 8) (eighth dscp priority) (eighth_below (ltb-true dscp 64 is)) (eighth_fits dscp priority low))
            ∙ same_eight dscp priority found low below e
          where
            eighth_below : dscp < 64 → dscp / 8 < 8
            eighth_below h = omega arith

        other : dscp / 8 ≢ found / 8
            → big_number 3 (drop (3 * (found / 8)) (three_bytes (3 * (dscp / 8)) (eighth dscp priority))) / 2 ^ (3 * (7 - found % 8)) % 2 ^ 3
            ≡ (if found == dscp then priority else 0)
        other apart =
            ap (λ (n : ℕ). n / 2 ^ (3 * (7 - found % 8)) % 2 ^ 3)
            (other_bytes (dscp / 8) (found / 8) (eighth dscp priority) (omega arith) apart)
            ∙ ap (λ (n : ℕ). n % 2 ^ 3) (zero-div (2 ^ (3 * (7 - found % 8))))
            ∙ rw (ne_eqb found dscp (λ e. apart (ap (λ (n : ℕ). n / 8) (sym e)))) refl
