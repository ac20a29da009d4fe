-- Classes in their order.
use Rattle.std.proofs.Common.{◌≡◌, ℕ, zero, suc, ◌+◌, ◌-◌, ◌<◌, ◌≤◌, ◌==◌, Bool, true, false, List, [], ◌∷◌, arith, refl, ap, sym, subst, length, get_or, nat_lt, ◌∙◌}
use Rattle.std.specs.Prelude.{insert, map, slice_index, slice_get}
use Rattle.std.specs.Option.{option_map_or}
use Rattle.std.proofs.lemmas.List.{get_or-map, get_or_default, length-map}
use Rattle.std.specs.List.Sorted.{IsStrictlyIncreasing}
use Rattle.std.proofs.lemmas.Bool.{le-ltb, lt-ltb, ltb-true, ltb-false, true≢false}
use Rattle.frame_classes.specs.declared.found.Sample.{Sample}
use Rattle.frame_classes.specs.Found.{Ascend, number_of, put_in}

-- numbers that ascend, a step from i on, and further
rises : (xs : List ℕ) → IsStrictlyIncreasing xs → (i further : ℕ) → i + suc further < length xs → slice_index xs i < slice_index xs (i + suc further)
rises xs h i zero within =
    let next : slice_index xs i < slice_index xs (i + 1) = h i (omega arith) in
    let same : i + 1 ≡ i + suc 0 = omega arith in
    rw (← same) next
rises xs h i (suc further) within =
    let before : slice_index xs i < slice_index xs (i + suc further) = rises xs h i further (omega arith) in
    let next : slice_index xs (i + suc further) < slice_index xs (i + suc further + 1) = h (i + suc further) (omega arith) in
    let same : i + suc further + 1 ≡ i + suc (suc further) = omega arith in
    let last : slice_index xs (i + suc further) < slice_index xs (i + suc (suc further)) = rw (← same) next in
    omega arith

-- the number of a class among all
number_in : (samples : List Sample) (i : ℕ) (d : Sample) → i < length samples → slice_index (map number_of samples) i ≡ number_of (get_or samples i d)
number_in samples i d within = get_or-map number_of samples i d 0 within

less_along : (a b x y : ℕ) → a ≡ x → b ≡ y → a < b → x < y
less_along a b x y p q h = omega arith

-- an earlier class has a smaller number
pub below : (samples : List Sample) (i j : ℕ) (d e : Sample) → Ascend samples → i < j → j < length samples → number_of (get_or samples i d) < number_of (get_or samples j e)
below samples i j d e ascend before within =
    let further : ℕ = j - i - 1 in
    let at : i + suc further ≡ j = omega arith in
    let long : length (map number_of samples) ≡ length samples = length-map samples number_of in
    let rise : slice_index (map number_of samples) i < slice_index (map number_of samples) (i + suc further) = rises (map number_of samples) ascend i further (omega arith) in
    less_along (slice_index (map number_of samples) i) (slice_index (map number_of samples) (i + suc further)) (number_of (get_or samples i d)) (number_of (get_or samples j e))
    (number_in samples i d (omega arith)) (rw at (number_in samples j e within)) rise

-- those up to a class of a smaller number have smaller numbers
pub smaller_up_to : (samples : List Sample) (middle number : ℕ) (e : Sample) → Ascend samples → middle < length samples
    → number_of (get_or samples middle e) < number → (k : ℕ) (d : Sample) → k < middle + 1 → number_of (get_or samples k d) < number
smaller_up_to samples middle number e ascend within less k d before = by_case (nat_lt k middle) refl
  where
    by_case : (b : Bool) → nat_lt k middle ≡ b → number_of (get_or samples k d) < number
    by_case true is = less_through (number_of (get_or samples k d)) (number_of (get_or samples middle e)) number (below samples k middle d e ascend (ltb-true k middle is) within) less
      where
        less_through : (a b c : ℕ) → a < b → b < c → a < c
        less_through a b c p q = omega arith
    by_case false is =
        let past : middle ≤ k = ltb-false k middle is in
        let same : middle ≡ k = omega arith in
        same_place (get_or samples middle e) (get_or samples k d) number (subst (λ (i : ℕ). get_or samples middle e ≡ get_or samples i d) same (get_or_default samples middle e d within)) less
      where
        same_place : (s r : Sample) (n : ℕ) → s ≡ r → number_of s < n → number_of r < n
        same_place s r n e h = subst (λ (s : Sample). number_of s < n) e h

-- ---- a sample put in its place

-- whether the class of the sample at a place has a number
abbrev pub has_at : List Sample → ℕ → ℕ → Bool
has_at samples place number = option_map_or (λ (sample : Sample). number_of sample == number) (slice_get samples place) false

-- the samples before a place have smaller numbers, and the one there doesn't
pub record IsPlace (samples : List Sample) (number place : ℕ) : Type 0 where
  pub within : place ≤ length samples
  pub before : (k : ℕ) (d : Sample) → k < place → number_of (get_or samples k d) < number
  pub behind : (d : Sample) → place < length samples → number ≤ number_of (get_or samples place d)

rest_of : (first : Sample) (rest : List Sample) (number place : ℕ) → IsPlace (first ∷ rest) number (suc place) → IsPlace rest number place
rest_of first rest number place is =
    record {
      within = omega (arith, is.within);
      before = λ k d h. is.before (suc k) d (omega arith);
      behind = λ d h. is.behind d (omega arith);
    }

-- its class is there
pub put_there : (new : Sample) (samples : List Sample) (place : ℕ) → IsPlace samples (number_of new) place → has_at samples place (number_of new) ≡ true
    → put_in new samples ≡ samples
put_there new [] place is has = absurd (true≢false (sym has))
put_there new (first ∷ rest) zero is has =
    let least = le-ltb (number_of first) (number_of new) (is.behind first (omega arith)) in
    rw (least, has) refl
put_there new (first ∷ rest) (suc place) is has =
    let less = lt-ltb (number_of first) (number_of new) (is.before 0 first (omega arith)) in
    rw less (ap (λ (samples : List Sample). first ∷ samples) (put_there new rest place (rest_of first rest (number_of new) place is) has))

-- it isn't
pub put_apart : (new : Sample) (samples : List Sample) (place : ℕ) → IsPlace samples (number_of new) place → has_at samples place (number_of new) ≡ false
    → put_in new samples ≡ insert samples place new
put_apart new [] zero is has = refl
put_apart new [] (suc place) is has = absurd (omega (arith, is.within))
put_apart new (first ∷ rest) zero is has =
    let least = le-ltb (number_of first) (number_of new) (is.behind first (omega arith)) in
    rw (least, has) refl
put_apart new (first ∷ rest) (suc place) is has =
    let less = lt-ltb (number_of first) (number_of new) (is.before 0 first (omega arith)) in
    rw less (ap (λ (samples : List Sample). first ∷ samples) (put_apart new rest place (rest_of first rest (number_of new) place is) has))

-- by what code sees of them
pub kept_in : (new : Sample) (samples seen : List Sample) (number place : ℕ) (at : Bool) → seen ≡ samples → number ≡ number_of new
    → IsPlace seen number place → at ≡ has_at seen place number → at ≡ true → samples ≡ put_in new samples
kept_in new samples seen number place at same is place_is at_is has =
    sym (put_there new samples place
    (subst (λ (n : ℕ). IsPlace samples n place) is (subst (λ (s : List Sample). IsPlace s number place) same place_is))
    (subst (λ (n : ℕ). has_at samples place n ≡ true) is (subst (λ (s : List Sample). has_at s place number ≡ true) same (sym at_is ∙ has))))

pub inserted_in : (new : Sample) (samples seen : List Sample) (number place : ℕ) (at : Bool) → seen ≡ samples → number ≡ number_of new
    → IsPlace seen number place → at ≡ has_at seen place number → at ≡ false → insert samples place new ≡ put_in new samples
inserted_in new samples seen number place at same is place_is at_is has =
    sym (put_apart new samples place
    (subst (λ (n : ℕ). IsPlace samples n place) is (subst (λ (s : List Sample). IsPlace s number place) same place_is))
    (subst (λ (n : ℕ). has_at samples place n ≡ false) is (subst (λ (s : List Sample). has_at s place number ≡ false) same (sym at_is ∙ has))))
