-- The places whose bits are set in words.
use Rattle.std.proofs.Common.{◌≡◌, ◌⊎◌, ℕ, zero, suc, ◌+◌, ◌-◌, ◌*◌, ◌/◌, ◌%◌, ◌^◌, ◌<◌, ◌≤◌, ◌==◌, true, false, List, [], ◌∷◌, ◌++◌, arith, refl, ap, sym, length, get_or, set, bit_or, replicate, w64, inl, inr, ◌∙◌, get_or-set_same, get_or-set_other}
use Rattle.std.specs.Prelude.{All, filter, nat_le}
use Rattle.std.specs.Int.{bit_at, trailing_zeros}
use Rattle.std.proofs.lemmas.Bool.{cases_eq, cases_lt, eq-eqb, le-leb, lt-leb, ne_eqb, true≢false}
use Rattle.std.proofs.lemmas.Nat.{shr-shr, shr_le}
use Rattle.std.proofs.lemmas.Nat.Bits.{bit_at-trailing_zeros, bit_at-zero, bit_at_above, bit_at_set_other, bit_at_set_same}
use Rattle.frame_classes.specs.Words.{AreInOrder, places_under, stands}
use Rattle.frame_classes.proofs.Filtered.{agree, first_of, none_behind, none_of, none_that, one_more, range_in_order}

-- ---- one bit

zero_or_one : (bit : ℕ) → bit ≡ 0 → (bit == 1) ≡ false
zero_or_one bit is = ne_eqb bit 1 (λ e. omega (arith, e, is))

zeros : (n k : ℕ) → ◌≡◌ {A = ℕ} (get_or (replicate n 0) k 0) 0
zeros zero k = refl
zeros (suc n) zero = refl
zeros (suc n) (suc k) = zeros n k

-- no bit of zeros is set
pub none_in_zeros : (end n : ℕ) → places_under end (replicate n 0) ≡ []
unfolding places_under
none_in_zeros end n =
    none_that (stands (replicate n 0)) 0 end (λ k l u. zero_or_one _ (ap (λ w. bit_at w (k % 64)) (zeros n (k / 64)) ∙ bit_at-zero (k % 64)))

-- ---- a bit that is set

-- as code sets it
abbrev pub with_bit : List ℕ → ℕ → List ℕ
with_bit words place = set words (place / 64) (bit_or (get_or words (place / 64) 0) (1 * 2 ^ (place % 64) % 2 ^ 64))

module _ (words : List ℕ) (place : ℕ) (within : place / 64 < length words) where
  stands_there : stands (with_bit words place) place ≡ true
  stands_there =
      eq-eqb _ 1 (ap (λ w. bit_at w (place % 64)) (get_or-set_same words (place / 64) _ 0 within)
      ∙ bit_at_set_same w64 (get_or words (place / 64) 0) (place % 64) (omega arith))

  stands_elsewhere : (k : ℕ) → (k ≡ place → ⊥) → stands (with_bit words place) k ≡ stands words k
  stands_elsewhere k other = by_word (cases_eq (k / 64) (place / 64))
    where
      by_word : (k / 64 ≡ place / 64) ⊎ (k / 64 ≡ place / 64 → ⊥) → stands (with_bit words place) k ≡ stands words k
      by_word (inl same) =
          let apart : k % 64 ≡ place % 64 → ⊥ = λ e. other (omega (arith, e, same)) in
          ap (λ w. bit_at w (k % 64) == 1)
          (ap (λ i. get_or (with_bit words place) i 0) same ∙ get_or-set_same words (place / 64) _ 0 within)
          ∙ ap (λ bit. bit == 1) (bit_at_set_other w64 (get_or words (place / 64) 0) (place % 64) (omega arith) (k % 64) apart)
          ∙ ap (λ i. bit_at (get_or words i 0) (k % 64) == 1) (sym same)
      by_word (inr apart) = ap (λ w. bit_at w (k % 64) == 1) (get_or-set_other words (place / 64) (k / 64) _ 0 apart)

pub pushed : (end : ℕ) (words : List ℕ) (place : ℕ) → place < end → place / 64 < length words → All (λ k. k < place) (places_under end words)
    → places_under end (with_bit words place) ≡ places_under end words ++ place ∷ []
unfolding places_under
pushed end words place below within all =
    one_more (stands words) (stands (with_bit words place)) 0 end place (omega arith) (omega (arith, below))
    (stands_there words place within) (stands_elsewhere words place within) (none_behind (stands words) 0 end place all)

pub places_in_order : (end : ℕ) (words : List ℕ) → AreInOrder 0 end (places_under end words)
unfolding places_under
places_in_order end words = range_in_order (stands words) 0 end end (omega arith)

-- ---- from a place on

-- none, where no bit is set from there on
pub none_from : (end from : ℕ) (words : List ℕ) → ((k : ℕ) → from ≤ k → k < end → stands words k ≡ false) → filter (nat_le from) (places_under end words) ≡ []
unfolding places_under
none_from end from words none = none_of (stands words) (nat_le from) 0 end (λ k l u there. by_order k u there (cases_lt k from))
  where
    by_order : (k : ℕ) → k < 0 + end → stands words k ≡ true → (k < from) ⊎ (from ≤ k) → nat_le from k ≡ false
    by_order k u there (inl less) = lt-leb from k less
    by_order k u there (inr more) = absurd (true≢false (sym there ∙ none k more (omega (arith, u))))

-- the same from a later place, where no bit between is set
pub same_from : (end from later : ℕ) (words : List ℕ) → from ≤ later → ((k : ℕ) → from ≤ k → k < later → stands words k ≡ false)
    → filter (nat_le from) (places_under end words) ≡ filter (nat_le later) (places_under end words)
unfolding places_under
same_from end from later words behind none =
    agree (stands words) (nat_le from) (nat_le later) 0 end (λ k l u there. by_order k there (cases_lt k from) (cases_lt k later))
  where
    by_order : (k : ℕ) → stands words k ≡ true → (k < from) ⊎ (from ≤ k) → (k < later) ⊎ (later ≤ k) → nat_le from k ≡ nat_le later k
    by_order k there (inl less) x = lt-leb from k less ∙ sym (lt-leb later k (omega (arith, less, behind)))
    by_order k there (inr more) (inl less) = absurd (true≢false (sym there ∙ none k more less))
    by_order k there (inr more) (inr past) = le-leb from k more ∙ sym (le-leb later k past)

-- the first, and those behind it
first_from : (end from place : ℕ) (words : List ℕ) → from ≤ place → place < end → stands words place ≡ true
    → ((k : ℕ) → from ≤ k → k < place → stands words k ≡ false)
    → filter (nat_le from) (places_under end words) ≡ place ∷ filter (nat_le (place + 1)) (places_under end words)
unfolding places_under
first_from end from place words behind below there none =
    first_of (stands words) (nat_le from) (nat_le (place + 1)) 0 end place (omega arith) (omega (arith, below)) there (le-leb from place behind)
    (λ k l u there. by_order k u there (cases_lt k from)) (λ k le. lt-leb (place + 1) k (omega (arith, le)))
    (λ k less. le-leb from k (omega (arith, less, behind)) ∙ sym (le-leb (place + 1) k (omega (arith, less))))
  where
    by_order : (k : ℕ) → k < place → stands words k ≡ true → (k < from) ⊎ (from ≤ k) → nat_le from k ≡ false
    by_order k u there (inl less) = lt-leb from k less
    by_order k u there (inr more) = absurd (true≢false (sym there ∙ none k more u))

-- ---- the bits of a word from one on

module _ (words : List ℕ) (from bits : ℕ) (is : bits ≡ get_or words (from / 64) 0 / 2 ^ (from % 64)) where
  -- the bit of a place of the word
  bit_of : (i : ℕ) → from % 64 + i < 64 → bit_at (get_or words ((from + i) / 64) 0) ((from + i) % 64) ≡ bit_at bits i
  bit_of i within =
      let at : (from + i) / 64 ≡ from / 64 = omega (arith, within) in
      let bit : (from + i) % 64 ≡ from % 64 + i = omega (arith, within) in
      ap (λ w. bit_at (get_or words w 0) ((from + i) % 64)) at ∙ ap (bit_at (get_or words (from / 64) 0)) bit
      ∙ ap (λ n. n % 2) (sym (shr-shr (get_or words (from / 64) 0) (from % 64) i)) ∙ ap (λ n. bit_at n i) (sym is)

  stands_by : (i : ℕ) → from % 64 + i < 64 → bit_at bits i ≡ 1 → stands words (from + i) ≡ true
  stands_by i within set = eq-eqb _ 1 (bit_of i within ∙ set)

  fails_by : (i : ℕ) → from % 64 + i < 64 → bit_at bits i ≡ 0 → stands words (from + i) ≡ false
  fails_by i within clear = zero_or_one _ (bit_of i within ∙ clear)

  fails_at : (k : ℕ) → from ≤ k → k < (from / 64 + 1) * 64 → bit_at bits (k - from) ≡ 0 → stands words k ≡ false
  fails_at k le less clear =
      let same : from + (k - from) ≡ k = omega (arith, le) in
      ap (stands words) (sym same) ∙ fails_by (k - from) (omega (arith, le, less)) clear

  -- none of them is set
  pub empty_word : bits ≡ 0 → (k : ℕ) → from ≤ k → k < (from / 64 + 1) * 64 → stands words k ≡ false
  empty_word none k le less = fails_at k le less (ap (λ n. bit_at n (k - from)) none ∙ bit_at-zero (k - from))

  module _ (end : ℕ) (some : 0 < bits) (fits : get_or words (from / 64) 0 < 2 ^ 64) (whole : (from / 64 + 1) * 64 ≤ end) where
    lowest : (trailing_zeros w64 bits < 64) × (bit_at bits (trailing_zeros w64 bits) ≡ 1) × ((i : ℕ) → i < trailing_zeros w64 bits → bit_at bits i ≡ 0)
    lowest = let le = shr_le (get_or words (from / 64) 0) (from % 64) in bit_at-trailing_zeros w64 bits some (omega (arith, le, fits, is))

    lowest_within : from % 64 + trailing_zeros w64 bits < 64
    lowest_within = by_order (cases_lt (from % 64 + trailing_zeros w64 bits) 64)
      where
        by_order : (from % 64 + trailing_zeros w64 bits < 64) ⊎ (64 ≤ from % 64 + trailing_zeros w64 bits) → from % 64 + trailing_zeros w64 bits < 64
        by_order (inl less) = less
        by_order (inr more) =
            let above : bit_at (get_or words (from / 64) 0) (from % 64 + trailing_zeros w64 bits) ≡ 0 = bit_at_above (get_or words (from / 64) 0) 64 _ fits more in
            let shifted : bit_at bits (trailing_zeros w64 bits) ≡ bit_at (get_or words (from / 64) 0) (from % 64 + trailing_zeros w64 bits) =
            ap (λ n. bit_at n (trailing_zeros w64 bits)) is ∙ ap (λ n. n % 2) (shr-shr (get_or words (from / 64) 0) (from % 64) (trailing_zeros w64 bits)) in
            let one = lowest.1 in
            absurd (omega (arith, above, shifted, one))

    pub lowest_below : from + trailing_zeros w64 bits < end
    lowest_below = let within = lowest_within in omega (arith, within, whole)

    pub lowest_first : filter (nat_le from) (places_under end words)
        ≡ (from + trailing_zeros w64 bits) ∷ filter (nat_le (from + trailing_zeros w64 bits + 1)) (places_under end words)
    lowest_first =
        let within = lowest_within in
        first_from end from (from + trailing_zeros w64 bits) words (omega arith) lowest_below
        (stands_by (trailing_zeros w64 bits) within lowest.1)
        (λ k le less. fails_at k le (omega (arith, within, less)) (lowest.2 (k - from) (omega (arith, le, less))))

-- none is set from one on, and so the next word is looked at
pub next_word : (words : List ℕ) (from bits end : ℕ) → bits ≡ get_or words (from / 64) 0 / 2 ^ (from % 64) → bits ≡ 0
    → filter (nat_le from) (places_under end words) ≡ filter (nat_le ((from / 64 + 1) * 64)) (places_under end words)
next_word words from bits end is none = same_from end from ((from / 64 + 1) * 64) words (omega arith) (empty_word words from bits is none)

-- ---- a whole word

whole : (words : List ℕ) (word bits : ℕ) → bits ≡ get_or words word 0 → bits ≡ get_or words (word * 64 / 64) 0 / 2 ^ (word * 64 % 64)
whole words word bits is =
    let at : word * 64 / 64 ≡ word = omega arith in
    let none : word * 64 % 64 ≡ 0 = omega arith in
    rw (at, none) (omega (arith, is))

whole_fits : (words : List ℕ) (word bits : ℕ) → bits ≡ get_or words word 0 → bits < 2 ^ 64 → get_or words (word * 64 / 64) 0 < 2 ^ 64
whole_fits words word bits is fits = let at : word * 64 / 64 ≡ word = omega arith in rw at (omega (arith, is, fits))

module _ (words : List ℕ) (word bits end : ℕ) (is : bits ≡ get_or words word 0) where
  pub whole_empty : bits ≡ 0 → filter (nat_le (word * 64)) (places_under end words) ≡ filter (nat_le ((word + 1) * 64)) (places_under end words)
  whole_empty none =
      let next : (word * 64 / 64 + 1) * 64 ≡ (word + 1) * 64 = omega arith in
      next_word words (word * 64) bits end (whole words word bits is) none ∙ ap (λ (k : ℕ). filter (nat_le k) (places_under end words)) next

  module _ (some : 0 < bits) (fits : bits < 2 ^ 64) (within : (word + 1) * 64 ≤ end) where
    pub whole_below : word * 64 + trailing_zeros w64 bits < end
    whole_below = lowest_below words (word * 64) bits (whole words word bits is) end some (whole_fits words word bits is fits) (omega (arith, within))

    pub whole_first : filter (nat_le (word * 64)) (places_under end words)
        ≡ (word * 64 + trailing_zeros w64 bits) ∷ filter (nat_le (word * 64 + trailing_zeros w64 bits + 1)) (places_under end words)
    whole_first = lowest_first words (word * 64) bits (whole words word bits is) end some (whole_fits words word bits is fits) (omega (arith, within))
