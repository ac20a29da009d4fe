-- Masks joined.
use Rattle.std.proofs.Common.{◌≡◌, ◌⊎◌, ℕ, zero, suc, ◌+◌, ◌/◌, ◌%◌, ◌<◌, ◌≤◌, ◌==◌, ◌&&◌, Bool, true, false, cond, List, [], ◌∷◌, Option, None, arith, refl, ap, sym, length, get_or, bit_and, min, inl, inr, ◌∙◌}
use Rattle.std.specs.Prelude.{filter, slice_get}
use Rattle.std.specs.Int.{bit_at}
use Rattle.std.specs.List.{range_with_len}
use Rattle.std.specs.Option.{option_map_or}
use Rattle.std.proofs.lemmas.Bool.{cases_eq, cases_lt, eq-eqb, ne_eqb}
use Rattle.std.proofs.lemmas.List.Elements.{filter_agree}
use Rattle.std.proofs.lemmas.Nat.Bits.{bit_at-lt, bit_at_and}
use Rattle.frame_rows.specs.declared.row.Row.{Row}
use Rattle.frame_classes.specs.Choices.{test_at}
use Rattle.frame_classes.specs.Words.{has, places_under, stands}
use Rattle.frame_classes.proofs.LeftRows.{filter-filter}

-- ---- what a list of numbers has

none_below : (p : ℕ → Bool) (b n k : ℕ) → k < b → has (filter p (range_with_len b n)) k ≡ false
none_below p b zero k less = refl
none_below p b (suc n) k less = by_test (p b) refl (none_below p (b + 1) n k (omega (arith, less)))
  where
    by_test : (t : Bool) → p b ≡ t → has (filter p (range_with_len (b + 1) n)) k ≡ false → has (filter p (range_with_len b (suc n))) k ≡ false
    by_test true is later = let apart : (b == k) ≡ false = ne_eqb b k (λ e. omega (arith, e, less)) in rw (is, apart) later
    by_test false is later = rw is later

none_past : (p : ℕ → Bool) (b n k : ℕ) → b + n ≤ k → has (filter p (range_with_len b n)) k ≡ false
none_past p b zero k more = refl
none_past p b (suc n) k more = by_test (p b) refl (none_past p (b + 1) n k (omega (arith, more)))
  where
    by_test : (t : Bool) → p b ≡ t → has (filter p (range_with_len (b + 1) n)) k ≡ false → has (filter p (range_with_len b (suc n))) k ≡ false
    by_test true is later = let apart : (b == k) ≡ false = ne_eqb b k (λ e. omega (arith, e, more)) in rw (is, apart) later
    by_test false is later = rw is later

has-range : (p : ℕ → Bool) (b n k : ℕ) → b ≤ k → k < b + n → has (filter p (range_with_len b n)) k ≡ p k
has-range p b zero k least most = absurd (omega (arith, least, most))
has-range p b (suc n) k least most =
    by_number (cases_eq b k) (λ other. has-range p (b + 1) n k (omega (arith, least, other)) (omega (arith, most)))
  where
    by_number : (b ≡ k) ⊎ (b ≡ k → ⊥) → ((b ≡ k → ⊥) → has (filter p (range_with_len (b + 1) n)) k ≡ p k)
        → has (filter p (range_with_len b (suc n))) k ≡ p k
    by_number (inl same) later = by_test (p b) refl
      where
        by_test : (t : Bool) → p b ≡ t → has (filter p (range_with_len b (suc n))) k ≡ p k
        by_test true is = let here : (b == k) ≡ true = eq-eqb b k same in rw (is, here) (sym (ap p (sym same) ∙ is))
        by_test false is = rw is (none_below p (b + 1) n k (omega (arith, same)) ∙ sym (ap p (sym same) ∙ is))
    by_number (inr other) later = by_test (p b) refl (later other)
      where
        by_test : (t : Bool) → p b ≡ t → has (filter p (range_with_len (b + 1) n)) k ≡ p k → has (filter p (range_with_len b (suc n))) k ≡ p k
        by_test true is there = let apart : (b == k) ≡ false = ne_eqb b k other in rw (is, apart) there
        by_test false is there = rw is there

-- those of a range that pass, where no number behind it does
pub has-all : (p : ℕ → Bool) (n : ℕ) → ((k : ℕ) → n ≤ k → p k ≡ false) → (k : ℕ) → has (filter p (range_with_len 0 n)) k ≡ p k
has-all p n none k = by_order (cases_lt k n)
  where
    by_order : (k < n) ⊎ (n ≤ k) → has (filter p (range_with_len 0 n)) k ≡ p k
    by_order (inl less) = has-range p 0 n k (omega arith) (omega (arith, less))
    by_order (inr more) = none_past p 0 n k (omega (arith, more)) ∙ sym (none k more)

-- to keep what such a list has is to keep what passes
pub keeps : (p : ℕ → Bool) (n : ℕ) (mask places : List ℕ) → ((k : ℕ) → n ≤ k → p k ≡ false) → mask ≡ filter p (range_with_len 0 n)
    → filter (has mask) places ≡ filter p places
keeps p n mask places none is =
    filter_agree (has mask) p (λ k. ap (λ (ks : List ℕ). has ks k) is ∙ has-all p n none k) places

-- a test of rows fails where no row stands
pub none_behind_rows : (test : Row → Bool) (rows : List Row) (k : ℕ) → length rows ≤ k → test_at test false rows k ≡ false
none_behind_rows test rows k past = let none = nothing rows k past in ap (λ (o : Option Row). option_map_or test o false) none
  where
    nothing : (rows : List Row) (k : ℕ) → length rows ≤ k → slice_get rows k ≡ None
    nothing [] k past = refl
    nothing (row ∷ rest) zero past = absurd (omega (arith, past))
    nothing (row ∷ rest) (suc k) past = nothing rest k (omega (arith, past))

-- ---- two masks joined

and_bits : (a b : ℕ) → a < 2 → b < 2 → (min a b == 1) ≡ ((a == 1) && (b == 1))
and_bits zero zero p q = refl
and_bits zero (suc zero) p q = refl
and_bits zero (suc (suc b)) p q = absurd (omega (arith, q))
and_bits (suc zero) zero p q = refl
and_bits (suc zero) (suc zero) p q = refl
and_bits (suc zero) (suc (suc b)) p q = absurd (omega (arith, q))
and_bits (suc (suc a)) b p q = absurd (omega (arith, p))

pub stands-both : (one other both : List ℕ) (k : ℕ) → get_or both (k / 64) 0 ≡ bit_and (get_or one (k / 64) 0) (get_or other (k / 64) 0)
    → stands both k ≡ (stands one k && stands other k)
stands-both one other both k is =
    ap (λ (word : ℕ). bit_at word (k % 64) == 1) is
    ∙ ap (λ (bit : ℕ). bit == 1) (bit_at_and (get_or one (k / 64) 0) (get_or other (k / 64) 0) (k % 64))
    ∙ and_bits (bit_at (get_or one (k / 64) 0) (k % 64)) (bit_at (get_or other (k / 64) 0) (k % 64)) (bit_at-lt (get_or one (k / 64) 0) (k % 64))
    (bit_at-lt (get_or other (k / 64) 0) (k % 64))

-- numbers of a range on which two tests agree
agree_within : (p q : ℕ → Bool) (b n : ℕ) → ((k : ℕ) → b ≤ k → k < b + n → p k ≡ q k) → filter p (range_with_len b n) ≡ filter q (range_with_len b n)
agree_within p q b zero h = refl
agree_within p q b (suc n) h =
    let here = h b (omega arith) (omega arith) in
    let later = agree_within p q (b + 1) n (λ k l u. h k (omega (arith, l)) (omega (arith, u))) in
    rw here (ap (λ (ks : List ℕ). cond (q b) (b ∷ ks) ks) later)

pub both_kept : (end : ℕ) (one other both : List ℕ)
    → ((k : ℕ) → k < end → get_or both (k / 64) 0 ≡ bit_and (get_or one (k / 64) 0) (get_or other (k / 64) 0))
    → places_under end both ≡ filter (has (places_under end other)) (places_under end one)
unfolding places_under
both_kept end one other both words =
    agree_within (stands both) (λ k. stands one k && has (places_under end other) k) 0 end (λ k l u.
    stands-both one other both k (words k (omega (arith, u)))
    ∙ ap (λ (b : Bool). stands one k && b) (sym (has-range (stands other) 0 end k l u)))
    ∙ sym (filter-filter (stands one) (has (places_under end other)) (range_with_len 0 end))

-- ---- the first of a side

-- behind a place that passes no more, none does
pub none_within : (p q : ℕ → Bool) (places : List ℕ) → ((k : ℕ) → p k ≡ true → q k ≡ false) → filter q (filter p places) ≡ []
none_within p q [] fails = refl
none_within p q (k ∷ rest) fails = by_test (p k) refl (none_within p q rest fails)
  where
    by_test : (t : Bool) → p k ≡ t → filter q (filter p rest) ≡ [] → filter q (filter p (k ∷ rest)) ≡ []
    by_test true is later = let gone = fails k is in rw (is, gone) later
    by_test false is later = rw is later
