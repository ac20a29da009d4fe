-- What is computed of items that can't be put in order is what the words say.
use Rattle.std.proofs.Common.{subst, ◌≡◌, ◌≢◌, ℕ, ◌+◌, ◌<◌, ◌≤◌, ◌⊎◌, ⊎_elim, inl, inr, List, [], ◌∷◌, ◌++◌, length, Option, Some, None, refl, ap, sym, arith, Bool, true, false}
use Rattle.std.specs.Prelude.{slice_get, option_map, suc, zero, cond, nat_lt, ◌==◌}
use Rattle.std.specs.List.{Contains}
use Rattle.std.proofs.lemmas.List.{append_assoc, append-nil}
use Rattle.std.proofs.lemmas.List.Elements.{Contains-push_cases}
use Rattle.std.proofs.lemmas.List.Folds.{Any-from_list_any, list_any-from_Any}
use Rattle.std.proofs.lemmas.Option.{get_or_from_slice_get, slice_get_within}
use Rattle.std.proofs.lemmas.Bool.{cases_eq, eq-eqb, eqb-true, ltb-true, ltb-false}
use Rattle.batch_reports.specs.declared.fault.GatherFault.{GatherFault}
use Rattle.batch_reports.specs.declared.fault.GatherFault.TheVariants.{Double, Stranger, Missing}
use Rattle.batch_reports.specs.Gathering.{has_number, missing_from, misplaced_behind}
use Rattle.batch_reports.specs.Misfit.{HavePlaces, IsMisfit}

-- ---- a list with one more

push_cases : {X : Type 0} (xs : List X) (x : X) (i : ℕ) (y : X) → slice_get (xs ++ x ∷ []) i ≡ Some y → (slice_get xs i ≡ Some y) ⊎ ((i ≡ length xs) × (x ≡ y))
push_cases [] x zero y h = inr (refl, (let e : x ≡ y = cc in e))
push_cases [] x (suc i) y h = absurd (let e : ⊥ = cc in e)
push_cases (z ∷ zs) x zero y h = inl h
push_cases (z ∷ zs) x (suc i) y h =
    ⊎_elim (λ (old : slice_get zs i ≡ Some y). inl old) (λ (new : (i ≡ length zs) × (x ≡ y)). inr (ap suc new.0, new.1)) (push_cases zs x i y h)

pub contained : {X : Type 0} (xs : List X) (i : ℕ) (x : X) → slice_get xs i ≡ Some x → Contains xs x
contained xs i x h = (i, slice_get_within xs i x h, get_or_from_slice_get xs i x x h)

module _ {X : Type 0} (number : X → ℕ) (count : ℕ) where
  -- ---- which numbers items have

  has : (n : ℕ) (xs : List X) → has_number number n xs ≡ true → (x : X) × Contains xs x × (number x ≡ n)
  has n xs found = let a = Any-from_list_any (λ r. number r == n) xs found in (a.1, (a.0, a.2, a.3), eqb-true (number a.1) n a.4)

  has_not : (n : ℕ) (xs : List X) → has_number number n xs ≡ false → (x : X) → Contains xs x → number x ≢ n
  has_not n xs absent x is same =
      let there : has_number number n xs ≡ true = list_any-from_Any (λ r. number r == n) xs (is.0, x, is.1, is.2, eq-eqb (number x) n same) in
      cc

  -- ---- the least number that none has

  abbrev IsLeast : ℕ → ℕ → List X → ℕ → Type 0
  IsLeast k more xs n = (k ≤ n) × (n < k + more) × (has_number number n xs ≡ false) × ((j : ℕ) → k ≤ j → j < n → has_number number j xs ≡ true)

  least_step : (k more n : ℕ) (xs : List X) (b : Bool) → has_number number k xs ≡ b → (missing_from number (k + 1) more xs ≡ Some n → IsLeast (k + 1) more xs n)
      → cond b (missing_from number (k + 1) more xs) (Some k) ≡ Some n → IsLeast k (suc more) xs n
  least_step k more n xs true is later h =
      let l = later h in (
        omega (arith, l.0),
        omega (arith, l.1),
        l.2,
        λ j from to. ⊎_elim
            (λ (same : j ≡ k). subst (λ (m : ℕ). has_number number m xs ≡ true) (sym same) is)
            (λ (apart : j ≢ k). l.3 j (omega (arith, from, apart)) to)
            (cases_eq j k),
      )
  least_step k more n xs false is later h =
      let same : k ≡ n = cc in
      (omega (arith, same), omega (arith, same), subst (λ (m : ℕ). has_number number m xs ≡ false) same is, λ j from to. absurd (omega (arith, from, to, same)))

  least : (k more n : ℕ) (xs : List X) → missing_from number k more xs ≡ Some n → IsLeast k more xs n
  least k zero n xs h = absurd (let e : ⊥ = cc in e)
  least k (suc more) n xs h = least_step k more n xs (has_number number k xs) refl (least (k + 1) more n xs) h

  missing : (xs : List X) (fault : GatherFault) (o : Option ℕ) → missing_from number 0 count xs ≡ o → HavePlaces number count xs → option_map Missing o ≡ Some fault
      → IsMisfit number count xs fault
  missing xs fault None is placed h = absurd (let e : ⊥ = cc in e)
  missing xs fault (Some n) is placed h =
      let l = least 0 count n xs is in
      let same : Missing n ≡ fault = cc in
      subst (IsMisfit number count xs) same (placed, omega (arith, l.1), has_not n xs l.2, λ k lt. has k xs (l.3 k (omega arith) lt))

  -- ---- one item more has a place

  places_push : (xs : List X) (x : X) → HavePlaces number count xs → number x < count → has_number number (number x) xs ≡ false → HavePlaces number count (xs ++ x ∷ [])
  places_push xs x p under new = record {
    under = λ y is. ⊎_elim
        (λ (old : Contains xs y). p.under y old)
        (λ (same : x ≡ y). subst (λ (z : X). number z < count) same under)
        (Contains-push_cases xs x y is);
    apart = λ j k y z lt at_j at_k. ⊎_elim
        (λ (old_k : slice_get xs k ≡ Some z). ⊎_elim
        (λ (old_j : slice_get xs j ≡ Some y). p.apart j k y z lt old_j old_k)
        (λ (new_j : (j ≡ length xs) × (x ≡ y)). let short = slice_get_within xs k z old_k in absurd (omega (arith, short, lt, new_j.0)))
        (push_cases xs x j y at_j))
        (λ (new_k : (k ≡ length xs) × (x ≡ z)). ⊎_elim
        (λ (old_j : slice_get xs j ≡ Some y). subst (λ (w : X). number y ≢ number w) new_k.1 (has_not (number x) xs new y (contained xs j y old_j)))
        (λ (new_j : (j ≡ length xs) × (x ≡ y)). absurd (omega (arith, lt, new_j.0, new_k.0)))
        (push_cases xs x j y at_j))
        (push_cases xs x k z at_k);
  }

  -- ---- from the first item on

  misfit_step : (earlier rest : List X) (x : X) (fault : GatherFault) (b c : Bool) → nat_lt (number x) count ≡ b → has_number number (number x) earlier ≡ c → HavePlaces number count earlier
      → (HavePlaces number count (earlier ++ x ∷ []) → misplaced_behind number count (earlier ++ x ∷ []) rest ≡ Some fault → IsMisfit number count ((earlier ++ x ∷ []) ++ rest) fault)
      → cond b (cond c (Some (Double (number x))) (misplaced_behind number count (earlier ++ x ∷ []) rest)) (Some (Stranger (number x))) ≡ Some fault
      → IsMisfit number count (earlier ++ x ∷ rest) fault
  misfit_step earlier rest x fault false c below taken placed later h =
      let same : Stranger (number x) ≡ fault = cc in
      subst (IsMisfit number count (earlier ++ x ∷ rest)) same
      (x, record { earlier = earlier; later = rest; list = refl; placed = placed }, refl, ltb-false (number x) count below)
  misfit_step earlier rest x fault true true below taken placed later h =
      let same : Double (number x) ≡ fault = cc in
      let y = has (number x) earlier taken in
      subst (IsMisfit number count (earlier ++ x ∷ rest)) same
      (x, record { earlier = earlier; later = rest; list = refl; placed = placed }, refl, ltb-true (number x) count below, y.0, y.1, y.2)
  misfit_step earlier rest x fault true false below taken placed later h =
      subst (λ (l : List X). IsMisfit number count l fault) (append_assoc earlier (x ∷ []) rest)
      (later (places_push earlier x placed (ltb-true (number x) count below) taken) h)

  misfits_behind : (earlier rest : List X) (fault : GatherFault) → HavePlaces number count earlier → misplaced_behind number count earlier rest ≡ Some fault
      → IsMisfit number count (earlier ++ rest) fault
  misfits_behind earlier [] fault placed h =
      subst (λ (l : List X). IsMisfit number count l fault) (sym (append-nil earlier))
      (missing earlier fault (missing_from number 0 count earlier) refl placed h)
  misfits_behind earlier (x ∷ rest) fault placed h =
      misfit_step earlier rest x fault (nat_lt (number x) count) (has_number number (number x) earlier) refl refl placed
      (λ more e. misfits_behind (earlier ++ x ∷ []) rest fault more e) h

  nothing_placed : HavePlaces number count []
  nothing_placed = record {
    under = λ x is. absurd (let lt = is.1 in omega arith);
    apart = λ j k x y lt at_j at_k. absurd (let e : ⊥ = cc in e);
  }

  pub misfits : (given : List X) (fault : GatherFault) → misplaced_behind number count [] given ≡ Some fault → IsMisfit number count given fault
  misfits given fault h = misfits_behind [] given fault nothing_placed h
