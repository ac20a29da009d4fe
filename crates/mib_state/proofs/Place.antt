-- What a search finds among instances in ascending order, and what an edit at that place does.
use Rattle.std.proofs.Common.{◌≡◌, ℕ, zero, suc, ◌+◌, ◌-◌, ◌<◌, ◌≤◌, List, [], ◌∷◌, length, get_or, set, map, Some, None, Result, Ok, Err, IfOk, IfErr, refl, sym, ap, subst, ◌∙◌, arith}
use Rattle.std.specs.Prelude.{is_some, slice_get}
use Rattle.std.specs.Option.{option_and_then}
use Rattle.std.specs.Result.{result_ok}
use Rattle.std.specs.List as list
use Rattle.std.specs.List.Sorted.{IsSearchInRange, IsBinarySearchResult, IsNonDecreasingBy}
use Rattle.std.specs.Ordering.{nat_cmp, ordering_index}
use Rattle.std.specs.declared.cmp.Ordering.{Ordering}
use Rattle.std.proofs.lemmas.Cmp.{ranked}
use Rattle.std.proofs.lemmas.List.Edits.{length-insert, get_or-insert_below, get_or-insert_at, get_or-insert_above, length-remove, get_or-remove_below, get_or-remove_above}
use Rattle.std.proofs.lemmas.List.{get_or-map, length-map}
use Rattle.std.proofs.lemmas.Option.{get_or_from_slice_get, slice_get-get_or, slice_get_within}
use Rattle.std.proofs.lemmas.Bool.{lt-ltb, le-ltb, ne_eqb, eq-eqb}
use Rattle.std.proofs.lemmas.Bool.Decides.{nat_tests}
use Rattle.std.proofs.lemmas.Grind.{common_steps}
use Rattle.mib_state.specs.Entities.{blank, find, insert, place_in, remove, replace, number_at, IsAscending, IsAt, IsGapFor}
use Rattle.managed_entity.specs.Instance.{Instance}

-- ---- the tail, one place lower

pub tail_at : (x : Instance) (l : List Instance) (n i : ℕ) → IsAt (x ∷ l) n (suc i) → IsAt l n i
tail_at x l n i at = record { in_range = omega (arith, at.in_range); has_number = at.has_number }

pub tail_gap : (x : Instance) (l : List Instance) (n i : ℕ) → IsGapFor (x ∷ l) n (suc i) → IsGapFor l n i
tail_gap x l n i gap = record {
  in_range = omega (arith, gap.in_range);
  smaller_before = λ j lt. gap.smaller_before (suc j) (omega arith);
  greater_after = λ j le lt. gap.greater_after (suc j) (omega arith) (omega arith);
}

pub tail_ascending : (x : Instance) (l : List Instance) → IsAscending (x ∷ l) → IsAscending l
tail_ascending x l up i j lt in_range = up (suc i) (suc j) (omega arith) (omega arith)

-- ---- a number that is there

pub head_smaller : (x : Instance) (l : List Instance) (n i : ℕ) → IsAscending (x ∷ l) → IsAt (x ∷ l) n (suc i) → x.number < n
head_smaller x l n i up at = omega (arith, up zero (suc i) (omega arith) at.in_range, at.has_number)

pub find_at : (l : List Instance) (n i : ℕ) → IsAscending l → IsAt l n i → find n l ≡ Some (get_or l i blank)
find_at [] n i up at = absurd (omega (arith, at.in_range))
find_at (x ∷ l) n zero up at = rw (eq-eqb x.number n at.has_number) refl
find_at (x ∷ l) n (suc i) up at =
    let smaller = head_smaller x l n i up at in
    rw (ne_eqb x.number n (omega arith)) (find_at l n i (tail_ascending x l up) (tail_at x l n i at))

pub place_at : (l : List Instance) (n i : ℕ) → IsAscending l → IsAt l n i → place_in n l ≡ Some i
place_at [] n i up at = absurd (omega (arith, at.in_range))
place_at (x ∷ l) n zero up at = rw (eq-eqb x.number n at.has_number) refl
place_at (x ∷ l) n (suc i) up at =
    let smaller = head_smaller x l n i up at in
    rw (ne_eqb x.number n (omega arith), place_at l n i (tail_ascending x l up) (tail_at x l n i at)) (ap (λ (k : ℕ). Some k) (omega arith))

-- what stands at a place is found by its number
pub found_at : (l : List Instance) (i : ℕ) (it : Instance) → IsAscending l → slice_get l i ≡ Some it → find it.number l ≡ Some it
found_at l i it up held =
    let is : get_or l i blank ≡ it = get_or_from_slice_get l i it blank held in
    find_at l it.number i up (record { in_range = slice_get_within l i it held; has_number = ap (λ (x : Instance). x.number) is }) ∙ ap Some is

pub remove_at : (l : List Instance) (n i : ℕ) → IsAscending l → IsAt l n i → remove n l ≡ list.remove l i
remove_at [] n i up at = absurd (omega (arith, at.in_range))
remove_at (x ∷ l) n zero up at = rw (eq-eqb x.number n at.has_number) refl
remove_at (x ∷ l) n (suc i) up at =
    let smaller = head_smaller x l n i up at in
    rw (ne_eqb x.number n (omega arith)) (ap (λ rest. x ∷ rest) (remove_at l n i (tail_ascending x l up) (tail_at x l n i at)))

pub replace_at : (l : List Instance) (n i : ℕ) (new : Instance) → new.number ≡ n → IsAscending l → IsAt l n i → replace new l ≡ set l i new
replace_at [] n i new is up at = absurd (omega (arith, at.in_range))
replace_at (x ∷ l) n zero new is up at = rw (eq-eqb x.number new.number (at.has_number ∙ sym is)) refl
replace_at (x ∷ l) n (suc i) new is up at =
    let smaller = head_smaller x l n i up at in
    rw (ne_eqb x.number new.number (omega arith)) (ap (λ rest. x ∷ rest) (replace_at l n i new is (tail_ascending x l up) (tail_at x l n i at)))

-- ---- a number that isn't

pub find_gap : (l : List Instance) (n i : ℕ) → IsGapFor l n i → find n l ≡ None
find_gap [] n i gap = refl
find_gap (x ∷ l) n zero gap =
    let greater : n < x.number = gap.greater_after zero (omega arith) (omega arith) in
    rw (ne_eqb x.number n (omega arith)) (find_gap l n zero (record { in_range = omega arith; smaller_before = λ j lt. absurd (omega arith); greater_after = λ j le lt. gap.greater_after (suc j) (omega arith) (omega arith) }))
find_gap (x ∷ l) n (suc i) gap =
    let smaller : x.number < n = gap.smaller_before zero (omega arith) in
    rw (ne_eqb x.number n (omega arith)) (find_gap l n i (tail_gap x l n i gap))

pub place_gap : (l : List Instance) (n i : ℕ) → IsGapFor l n i → place_in n l ≡ None
place_gap [] n i gap = refl
place_gap (x ∷ l) n zero gap =
    let greater : n < x.number = gap.greater_after zero (omega arith) (omega arith) in
    rw (ne_eqb x.number n (omega arith), place_gap l n zero (record { in_range = omega arith; smaller_before = λ j lt. absurd (omega arith); greater_after = λ j le lt. gap.greater_after (suc j) (omega arith) (omega arith) })) refl
place_gap (x ∷ l) n (suc i) gap =
    let smaller : x.number < n = gap.smaller_before zero (omega arith) in
    rw (ne_eqb x.number n (omega arith), place_gap l n i (tail_gap x l n i gap)) refl

pub insert_gap : (l : List Instance) (i : ℕ) (new : Instance) → IsGapFor l new.number i → insert new l ≡ list.insert l i new
insert_gap [] zero new gap = refl
insert_gap [] (suc i) new gap = absurd (omega (arith, gap.in_range))
insert_gap (x ∷ l) zero new gap = rw (lt-ltb new.number x.number (gap.greater_after zero (omega arith) (omega arith))) refl
insert_gap (x ∷ l) (suc i) new gap =
    let smaller : x.number < new.number = gap.smaller_before zero (omega arith) in
    rw (le-ltb new.number x.number (omega arith)) (ap (λ rest. x ∷ rest) (insert_gap l i new (tail_gap x l new.number i gap)))

-- ---- what a search gives

module _ (l : List Instance) (n : ℕ) where
  pub found_instance : IsAscending l → (r : Result ℕ ℕ) → IfOk r (IsAt l n) → IfOk r (λ i. slice_get l i ≡ find n l)
  found_instance up (Ok i) at = slice_get-get_or l i blank at.in_range ∙ sym (find_at l n i up at)
  found_instance up (Err i) at = tt

  pub found_room : (room : ℕ) → length l ≤ room → (r : Result ℕ ℕ) → IfOk r (IsAt l n) → IfOk r (λ i. i < room)
  found_room room fits (Ok i) at = omega (arith, at.in_range)
  found_room room fits (Err i) at = tt

  pub placed : IsAscending l → (r : Result ℕ ℕ) → IfOk r (IsAt l n) → IfErr r (IsGapFor l n) → result_ok r ≡ place_in n l
  placed up (Ok i) at gap = sym (place_at l n i up at)
  placed up (Err i) at gap = sym (place_gap l n i gap)

  -- the place of an instance, if there is one
  pub place_found : (r : Result ℕ ℕ) → IfOk r (IsAt l n) → IfErr r (IsGapFor l n) → IfOk r (λ i. slice_get l i ≡ find n l)
      → record { instance : option_and_then (slice_get l) (result_ok r) ≡ find n l; held : is_some (result_ok r) ≡ is_some (find n l) }
  place_found (Ok i) at gap is = record { instance = is; held = ap is_some (sym (slice_get-get_or l i blank at.in_range) ∙ is) }
  place_found (Err i) at gap is = let none = find_gap l n i gap in record { instance = sym none; held = ap is_some (sym none) }

-- ---- the order is kept

pub ascending_none : IsAscending []
ascending_none i j lt in_range = absurd (omega arith)

pub ascending_set : (l : List Instance) (n i : ℕ) (new : Instance) → new.number ≡ n → IsAscending l → IsAt l n i → IsAscending (set l i new)
ascending_set l n at new is up is_at i j lt in_range = grind (arith, common_steps, up i j, up i at, up at j, is_at.in_range, is_at.has_number)

pub ascending_insert : (l : List Instance) (at : ℕ) (it : Instance) → IsGapFor l it.number at → IsAscending l → IsAscending (list.insert l at it)
ascending_insert l at it gap up i j lt in_range =
    let n = it.number in
    let new = list.insert l at it in
    let number = λ (x : Instance). x.number in
    let length_new = length-insert l at it gap.in_range in
    let below : (i : ℕ) → i < at → number_at new i ≡ number_at l i = λ i below. ap number (get_or-insert_below l at it blank i below gap.in_range) in
    let here : (i : ℕ) → i ≡ at → number_at new i ≡ n = λ i here. rw here (ap number (get_or-insert_at l at it blank gap.in_range)) in
    let above : (i : ℕ) → at < i → number_at new i ≡ number_at l (i - 1) = λ i above. subst (λ q. number_at new q ≡ number_at l (i - 1)) {x = i - 1 + 1} (omega arith) (ap number (get_or-insert_above l at it blank (i - 1) (omega arith) gap.in_range)) in
    grind (arith, below i, here i, above i, below j, here j, above j, up i j, up i (j - 1), up (i - 1) (j - 1), gap.smaller_before i, gap.greater_after (j - 1))

-- ---- rows, each shown as an instance

pub map-insert : {R : Type 0} (shown : R → Instance) (rows : List R) (i : ℕ) (row : R) → map shown (list.insert rows i row) ≡ list.insert (map shown rows) i (shown row)
map-insert shown rows zero row = refl
map-insert shown [] (suc i) row = refl
map-insert shown (x ∷ rows) (suc i) row = ap (λ rest. shown x ∷ rest) (map-insert shown rows i row)

pub map-remove : {R : Type 0} (shown : R → Instance) (rows : List R) (i : ℕ) → map shown (list.remove rows i) ≡ list.remove (map shown rows) i
map-remove shown [] zero = refl
map-remove shown [] (suc i) = refl
map-remove shown (x ∷ rows) zero = refl
map-remove shown (x ∷ rows) (suc i) = ap (λ rest. shown x ∷ rest) (map-remove shown rows i)

-- without one, the later ones move down by a place
pub ascending_remove : (l : List Instance) (at : ℕ) → at < length l → IsAscending l → IsAscending (list.remove l at)
ascending_remove l at inside up i j lt in_range =
    let number = λ (x : Instance). x.number in
    let new = list.remove l at in
    let length_new = length-remove l at inside in
    let below : (i : ℕ) → i < at → number_at new i ≡ number_at l i = λ i below. ap number (get_or-remove_below l at blank i below inside) in
    let above : (i : ℕ) → at ≤ i → number_at new i ≡ number_at l (i + 1) = λ i above. ap number (get_or-remove_above l at blank i above inside) in
    grind (arith, below i, above i, below j, above j, up i j, up i (j + 1), up (i + 1) (j + 1))

module _ {R : Type 0} (shown : R → Instance) (number : R → ℕ) (same : (row : R) → (shown row).number ≡ number row) (n : ℕ) where
  -- what holds of the comparison at a place holds of the instance that is shown there
  shown_at : (rows : List R) (i : ℕ) (o : Ordering) → i < length rows → ((d : R) → o ≡ nat_cmp (number (get_or rows i d)) n) → o ≡ nat_cmp (number_at (map shown rows) i) n
  shown_at [] i o h is = absurd (omega arith)
  shown_at (x ∷ rows) i o h is =
      let here : number_at (map shown (x ∷ rows)) i ≡ number (get_or (x ∷ rows) i x) = ap (λ (s : Instance). s.number) (get_or-map shown (x ∷ rows) i x blank h) ∙ same _ in
      rw here (is x)

  rows_rise : (rows : List R) → IsAscending (map shown rows) → IsNonDecreasingBy (λ row. ordering_index (nat_cmp (number row) n)) rows
  rows_rise rows up i j d le in_range =
      let here : (k : ℕ) → k < length rows → number_at (map shown rows) k ≡ number (get_or rows k d) = λ k h. ap (λ (s : Instance). s.number) (get_or-map shown rows k d blank h) ∙ same _ in
      let rises : number (get_or rows i d) ≤ number (get_or rows j d) = grind (arith, here i (omega arith), here j in_range, up i j, length-map rows shown, λ (e : i ≡ j). ap (λ k. number (get_or rows k d)) e) in
      grind (arith, nat_tests)

  -- a binary search of the rows ends at the number, or at the gap for it
  pub searched : (rows : List R) → IsAscending (map shown rows) → (r : Result ℕ ℕ) → IsSearchInRange r (length rows) → IsBinarySearchResult (λ row. nat_cmp (number row) n) rows r → record { found : IfOk r (IsAt (map shown rows) n); absent : IfErr r (IsGapFor (map shown rows) n) }
  searched rows up (Ok at) in_range equal = record {
    found = record { in_range = rw length-map in_range; has_number = ranked _ n _ (shown_at rows at _ in_range (λ d. sym (equal d))) };
    absent = tt;
  }
  searched rows up (Err at) in_range parted = record {
    found = tt;
    absent = record {
      in_range = rw length-map in_range;
      smaller_before = λ j lt. ranked _ n _ (shown_at rows j _ (omega arith) (λ d. sym ((parted (rows_rise rows up)).0 j d (omega arith) lt)));
      greater_after = λ j le lt. let inside : j < length rows = omega (arith, length-map rows shown) in ranked _ n _ (shown_at rows j _ inside (λ d. sym ((parted (rows_rise rows up)).1 j d le inside)));
    };
  }
