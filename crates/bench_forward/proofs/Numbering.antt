-- The numbers of interfaces, and how they are found.
use Rattle.std.proofs.Common.{◌≡◌, ◌≢◌, ◌<◌, ◌≤◌, ℕ, zero, suc, ◌==◌, true, false, List, [], ◌∷◌, ◌++◌, length, get_or, Option, Some, None, refl, sym, ap, ◌∙◌, arith, eqb-true, eq-eqb, slice_index, slice_set, length-append, length-set, inl, inr}
use Rattle.std.specs.Prelude.{nat_lt}
use Rattle.std.specs.List.{list_any, position_or_len}
use Rattle.std.proofs.Math.Dec.{eqb}
use Rattle.std.proofs.Math.ListN.{get_or-append}
use Rattle.std.proofs.Math.Seq.{get_or-append_seam}
use Rattle.std.proofs.lemmas.Bool.{cases_lt, lt-ltb, ne_eqb}
use Rattle.std.proofs.lemmas.List.{get_or_default, get_or-set_other, get_or-set_same}
use Rattle.std.proofs.lemmas.List.Folds.{Any-from_list_any}
use Rattle.std.proofs.lemmas.List.Quantifiers.{position-Some}
use Rattle.std.proofs.lemmas.Map.Keys.{IsDistinct-from_apart}
use Rattle.std.proofs.lemmas.Map.Steps.{length-le_from_distinct_below}
use Rattle.frame_stats.specs.Figures.{gem_ports}
use Rattle.bench_forward.specs.Interfaces.{AreNumbersOf}
use Rattle.bench_forward.specs.Packets.{interface_of}

-- ---- where a GEM port stands

first_at_most : (gem : ℕ) (gems : List ℕ) (k : ℕ) → k < length gems → slice_index gems k ≡ gem → position_or_len (λ (other : ℕ). other == gem) gems ≤ k
first_at_most gem [] k within is = absurd (omega arith)
first_at_most gem (g ∷ gems) zero within is =
    let here : (g == gem) ≡ true = eq-eqb g gem is in
    rw here (omega arith)
first_at_most gem (g ∷ gems) (suc k) within is =
    let more = first_at_most gem gems k (omega arith) is in
    elim (g == gem) as (λ b. (g == gem) ≡ b → position_or_len (λ (other : ℕ). other == gem) (g ∷ gems) ≤ suc k) [
      | true ↦ λ here. rw here (omega arith)
      | false ↦ λ other. rw other (omega (arith, more))
    ] refl

-- one that stands there has a number
pub has_number : (gem : ℕ) (gems : List ℕ) (k : ℕ) → k < length gems → slice_index gems k ≡ gem → interface_of gem gems ≢ None
has_number gem gems k within is none =
    let first = first_at_most gem gems k within is in
    let there : nat_lt (position_or_len (λ (other : ℕ). other == gem) gems) (length gems) ≡ true = lt-ltb _ _ (omega (arith, first, within)) in
    let some = rw there at none in
    cc

-- what a number says
pub numbered : (gem : ℕ) (gems : List ℕ) (k : ℕ) → interface_of gem gems ≡ Some k → (k < length gems) × (slice_index gems k ≡ gem)
numbered gem gems k is =
    let found = position-Some (λ (other : ℕ). other == gem) gems k 0 is in
    (found.0, eqb-true (slice_index gems k) gem found.1)

module _ (gems numbers : List ℕ) (are : AreNumbersOf gems numbers) where
  -- the number at the place of a GEM port is that of its interface, where that interface is its own
  pub number_is : (gem k : ℕ) → slice_index numbers gem ≡ k → k < length gems → slice_index gems k ≡ gem → Some k ≡ interface_of gem gems
  number_is gem k at within is = by_number (interface_of gem gems) refl
    where
      by_number : (number : Option ℕ) → interface_of gem gems ≡ number → Some k ≡ interface_of gem gems
      by_number None none = absurd (has_number gem gems k within is none)
      by_number (Some j) some =
          let there = numbered gem gems j some in
          let same : j ≡ k = sym (are.found j there.0) ∙ ap (slice_index numbers) there.1 ∙ at in
          sym (some ∙ ap Some same)

  -- and there is none where it isn't
  pub number_is_none : (gem k : ℕ) → slice_index numbers gem ≡ k → (k < length gems → slice_index gems k ≢ gem) → None ≡ interface_of gem gems
  number_is_none gem k at other = by_number (interface_of gem gems) refl
    where
      by_number : (number : Option ℕ) → interface_of gem gems ≡ number → None ≡ interface_of gem gems
      by_number None none = sym none
      by_number (Some j) some =
          let there = numbered gem gems j some in
          let same : j ≡ k = sym (are.found j there.0) ∙ ap (slice_index numbers) there.1 ∙ at in
          absurd (other (omega (arith, there.0, same)) (ap (slice_index gems) (sym same) ∙ there.1))

  -- ---- one more

  apart : (i j d : ℕ) → i < j → j < length gems → eqb (get_or gems i d) (get_or gems j d) ≡ false
  apart i j d before within =
      let here_i : get_or gems i d ≡ slice_index gems i = get_or_default gems i d 0 (omega (arith, before, within)) in
      let here_j : get_or gems j d ≡ slice_index gems j = get_or_default gems j d 0 within in
      let found_i = are.found i (omega (arith, before, within)) in
      let found_j = are.found j within in
      let other : slice_index gems i ≢ slice_index gems j = λ same. omega (arith, before, sym found_i ∙ ap (slice_index numbers) same ∙ found_j) in
      rw (here_i, here_j) (ne_eqb _ _ other)

  below : (q : ℕ) → list_any (eqb q) gems ≡ true → q < gem_ports
  below q any =
      let there = Any-from_list_any (eqb q) gems any in
      let is : slice_index gems there.0 ≡ there.1 = get_or_default gems there.0 0 there.1 there.2 ∙ there.3 in
      let same : q ≡ there.1 = eqb-true q there.1 there.4 in
      omega (arith, is, same, are.few there.0 there.2)

  -- there is no room for more GEM ports than there are
  pub few_gems : length gems ≤ gem_ports
  few_gems = length-le_from_distinct_below gems gem_ports (IsDistinct-from_apart eqb gems apart) below

-- one GEM port more, which has no interface yet
pub numbers_more : (gems numbers : List ℕ) → AreNumbersOf gems numbers → (gem : ℕ) → gem < gem_ports → interface_of gem gems ≡ None
    → AreNumbersOf (gems ++ gem ∷ []) (slice_set numbers gem (length gems))
numbers_more gems numbers are gem fits none = record {
  every = length-set numbers gem (length gems) ∙ are.every;
  few = λ k within. elim (cases_lt k (length gems)) [
    | inl before ↦ rw (get_or-append gems (gem ∷ []) 0 k before) (are.few k before)
    | inr last ↦
        let at : k ≡ length gems = omega (arith, within, last, length-append gems (gem ∷ [])) in
        rw (at, get_or-append_seam gems gem [] 0) fits
  ];
  found = λ k within. elim (cases_lt k (length gems)) [
    | inl before ↦
        let other : slice_index gems k ≢ gem = λ same. has_number gem gems k before same none in
        rw (get_or-append gems (gem ∷ []) 0 k before, get_or-set_other numbers gem (slice_index gems k) (length gems) 0 other) (are.found k before)
    | inr last ↦
        let at : k ≡ length gems = omega (arith, within, last, length-append gems (gem ∷ [])) in
        rw (at, get_or-append_seam gems gem [] 0, get_or-set_same numbers gem (length gems) 0 (omega (arith, fits, are.every))) refl
  ];
}

-- so there is room for it
pub room_for : (gems numbers : List ℕ) → AreNumbersOf gems numbers → (gem : ℕ) → gem < gem_ports → interface_of gem gems ≡ None → length gems < gem_ports
room_for gems numbers are gem fits none =
    omega (arith, few_gems _ _ (numbers_more gems numbers are gem fits none), length-append gems (gem ∷ []))
