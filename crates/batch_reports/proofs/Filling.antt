-- Places filled with items.
use Rattle.std.proofs.Common.{subst, ◌≡◌, ℕ, ◌+◌, ◌<◌, ◌≤◌, ◌⊎◌, ⊎_elim, List, [], ◌∷◌, ◌++◌, map, length, get_or, Option, Some, None, refl, ap, sym, ◌∙◌, arith, Bool, true, false, ◌≢◌}
use Rattle.std.specs.Prelude.{slice_get, is_some, option_map, count_by, suc, zero, cond, nat_lt, ◌==◌}
use Rattle.std.specs.List.{Contains}
use Rattle.std.specs.Iterator.{Yields, AlwaysYields}
use Rattle.std.proofs.lemmas.Iterator.{YieldsList}
use Rattle.std.proofs.Math.ListN.{set}
use Rattle.std.proofs.lemmas.List.{get_or-set_same, get_or-set_other, length-set, length-append, append_assoc, append-nil}
use Rattle.std.proofs.lemmas.List.Elements.{Contains-push, Contains-push_cases, Contains-append_left}
use Rattle.std.proofs.lemmas.List.Sums.{sum_by-set, sum_by-cons}
use Rattle.std.proofs.lemmas.List.Folds.{Any-from_list_any, list_any-from_Any}
use Rattle.std.proofs.lemmas.Bool.{cases_eq, cases_lt, eq-eqb, eqb-true, lt-ltb, le-ltb, false_from_ne_true}
use Rattle.batch_reports.specs.declared.fault.GatherFault.{GatherFault}
use Rattle.batch_reports.specs.declared.fault.GatherFault.TheVariants.{Double, Stranger, Missing, NoMemory, CountFull}
use Rattle.batch_reports.specs.Gathering.{AreInOrder, IsWhyNot, has_number, missing_from, misplaced, misplaced_behind}
use Rattle.batch_reports.specs.Places.{Filled, Fits, HasNoPlace}

-- ---- an iterator on the way

-- what stands before an item that it gives, and behind it
pub behind : {S A : Type 0} {steps : S → Option A → S → Type 0} {s : S} {all : List A} → YieldsList steps (λ y. y) s all → (xs : List A) (t : S) → Yields steps s xs t
    → (x : A) (r : Option A) (u : S) → r ≡ Some x → steps t r u → (rest : List A) × (all ≡ xs ++ x ∷ rest)
behind {S} {A} {steps} {s} {all} road xs t way x r u is step = go xs s all road.runs way
  where
    here : steps t (Some x) u
    here = subst (λ (o : Option A). steps t o u) is step

    go : (xs : List A) (s : S) (all : List A) → AlwaysYields steps (λ y. y) s all → Yields steps s xs t → (rest : List A) × (all ≡ xs ++ x ∷ rest)
    go [] s [] h y = absurd (h x u (subst (λ (w : S). steps w (Some x) u) (sym y) here))
    go [] s (a ∷ more) h y = let k = h.1 x u (subst (λ (w : S). steps w (Some x) u) (sym y) here) in (more, ap (λ (z : A). z ∷ more) (sym k.0))
    go (w ∷ ws) s [] h y = absurd (h w y.0 y.1)
    go (w ∷ ws) s (a ∷ more) h y =
        let k = h.1 w y.0 y.1 in
        let m = go ws y.0 more k.1 y.2 in
        (m.0, ap (λ (l : List A). a ∷ l) m.1 ∙ ap (λ (z : A). z ∷ (ws ++ x ∷ m.0)) (sym k.0))

-- ---- places in a row

abbrev one : {X : Type 0} → Option X → ℕ
one o = cond (is_some o) 1 0

many_push : {X : Type 0} (slots : List (Option X)) (i : ℕ) (r : X) → i < length slots → get_or slots i None ≡ None
    → count_by is_some (set slots i (Some r)) ≡ count_by is_some slots + 1
many_push slots i r lt free =
    let sums = sum_by-set one slots i (Some r) None lt in
    let nothing : one (get_or slots i None) ≡ 0 = ap one free in
    omega (arith, sums, nothing)

taken_by : {X : Type 0} (o : Option X) → is_some o ≡ true → (q : X) × (o ≡ Some q)
taken_by None is = absurd (cc)
taken_by (Some q) is = (q, refl)

taken_at : {X : Type 0} (out : List X) (rest : List (Option X)) (k : ℕ) → k < length out → (q : X) × (get_or (map Some out ++ rest) k None ≡ Some q)
taken_at [] rest k lt = absurd (omega (arith, lt))
taken_at (x ∷ xs) rest zero lt = (x, refl)
taken_at (x ∷ xs) rest (suc k) lt = taken_at xs rest k (omega (arith, lt))

free_at : {X : Type 0} (out : List X) (rest : List (Option X)) → get_or (map Some out ++ None ∷ rest) (length out) None ≡ None
free_at [] rest = refl
free_at (x ∷ xs) rest = free_at xs rest

at_place : {X : Type 0} (out : List X) (k : ℕ) → get_or (map Some out) k None ≡ slice_get out k
at_place [] k = refl
at_place (x ∷ xs) zero = refl
at_place (x ∷ xs) (suc k) = at_place xs k

all_taken : {X : Type 0} (out : List X) → count_by is_some (map Some out) ≡ length out
all_taken [] = refl
all_taken (x ∷ xs) = let more = sum_by-cons one (Some x) (map Some xs) in let rest = all_taken xs in omega (arith, more, rest)

pub length_of_map : {X : Type 0} (out : List X) → length (map Some out) ≡ length out
length_of_map [] = refl
length_of_map (x ∷ xs) = ap suc (length_of_map xs)

-- ---- a full count is no misplaced item

no_full : (b c : Bool) (n : ℕ) (o : Option GatherFault) → (o ≡ Some CountFull → ⊥) → cond b (cond c (Some (Double n)) o) (Some (Stranger n)) ≡ Some CountFull → ⊥
no_full true true n o h e = cc
no_full true false n o h e = h e
no_full false c n o h e = cc

not_missing : (o : Option ℕ) → option_map Missing o ≡ Some CountFull → ⊥
not_missing None e = cc
not_missing (Some n) e = cc

module _ {X : Type 0} (number : X → ℕ) where
  -- ---- one item more

  placed_push : (slots : List (Option X)) (r q : X) → get_or slots (number r) None ≡ None → get_or slots (number q) None ≡ Some q
      → get_or (set slots (number r) (Some r)) (number q) None ≡ Some q
  placed_push slots r q free has =
      let apart : number q ≢ number r = λ same. let e : get_or slots (number r) None ≡ Some q = subst (λ (n : ℕ). get_or slots n None ≡ Some q) same has in cc in
      get_or-set_other slots (number r) (number q) (Some r) None apart ∙ has

  found_push : (given : List X) (slots : List (Option X)) (r : X) (k : ℕ) (q : X) → number r < length slots
      → ((k : ℕ) (q : X) → get_or slots k None ≡ Some q → Contains given q × (number q ≡ k))
      → get_or (set slots (number r) (Some r)) k None ≡ Some q → Contains (given ++ r ∷ []) q × (number q ≡ k)
  found_push given slots r k q room found has =
      ⊎_elim
      (λ (same : k ≡ number r).
      let here : get_or (set slots (number r) (Some r)) (number r) None ≡ Some r = get_or-set_same slots (number r) (Some r) None room in
      let there : get_or (set slots (number r) (Some r)) (number r) None ≡ Some q = subst (λ (n : ℕ). get_or (set slots (number r) (Some r)) n None ≡ Some q) same has in
      let it : r ≡ q = cc in
      (subst (λ (x : X). Contains (given ++ r ∷ []) x) it (Contains-push given r), ap (λ (x : X). number x) (sym it) ∙ sym same))
      (λ (apart : k ≢ number r).
      let f = found k q (sym (get_or-set_other slots (number r) k (Some r) None apart) ∙ has) in
      (Contains-append_left given (r ∷ []) q f.0, f.1))
      (cases_eq k (number r))

  filled_push : (count : ℕ) (given : List X) (slots : List (Option X)) (r : X) → Filled number count given slots
      → number r < length slots → get_or slots (number r) None ≡ None → Filled number count (given ++ r ∷ []) (set slots (number r) (Some r))
  filled_push count given slots r f room free = record {
    len = length-set slots (number r) (Some r) ∙ f.len;
    many = many_push slots (number r) r room free ∙ (let longer : length (given ++ r ∷ []) ≡ length given + 1 = length-append given (r ∷ []) in let m = f.many in omega (arith, longer, m));
    placed = λ q has. ⊎_elim
        (λ (old : Contains given q). placed_push slots r q free (f.placed q old))
        (λ (same : r ≡ q). subst (λ (x : X). get_or (set slots (number r) (Some r)) (number x) None ≡ Some x) same (get_or-set_same slots (number r) (Some r) None room))
        (Contains-push_cases given r q has);
    found = λ k q has. found_push given slots r k q room f.found has;
  }

  -- ---- a place says whether an item has its number

  free_place : (count : ℕ) (given : List X) (slots : List (Option X)) (n : ℕ) → Filled number count given slots → get_or slots n None ≡ None → has_number number n given ≡ false
  free_place count given slots n f free = false_from_ne_true (has_number number n given) (λ yes.
      let a = Any-from_list_any (λ r. number r == n) given yes in
      let same : number a.1 ≡ n = eqb-true (number a.1) n a.4 in
      let there : get_or slots n None ≡ Some a.1 = subst (λ (m : ℕ). get_or slots m None ≡ Some a.1) same (f.placed a.1 (a.0, a.2, a.3)) in
      cc)

  taken_place : (count : ℕ) (given : List X) (slots : List (Option X)) (n : ℕ) (q : X) → Filled number count given slots → get_or slots n None ≡ Some q → has_number number n given ≡ true
  taken_place count given slots n q f is =
      let k = f.found n q is in
      list_any-from_Any (λ r. number r == n) given (k.0.0, q, k.0.1, k.0.2, eq-eqb (number q) n k.1)

  -- ---- what is wrong, one item more

  put_step : (count : ℕ) (given : List X) (r : X) (rest : List X) → nat_lt (number r) count ≡ true → has_number number (number r) given ≡ false
      → misplaced_behind number count given (r ∷ rest) ≡ misplaced_behind number count (given ++ r ∷ []) rest
  put_step count given r rest below new = rw (below, new) refl

  pub fits_push : (count : ℕ) (given : List X) (slots : List (Option X)) (r : X) → Fits number count given slots
      → number r < length slots → get_or slots (number r) None ≡ None → Fits number count (given ++ r ∷ []) (set slots (number r) (Some r))
  fits_push count given slots r f room free = record {
    filled = filled_push count given slots r f.filled room free;
    so_far = λ rest.
        let below : number r < count = subst (λ (n : ℕ). number r < n) f.filled.len room in
        ap (misplaced number count) (append_assoc given (r ∷ []) rest) ∙ f.so_far (r ∷ rest)
        ∙ put_step count given r rest (lt-ltb (number r) count below) (free_place count given slots (number r) f.filled free);
  }

  stranger_step : (count : ℕ) (given : List X) (r : X) (rest : List X) → nat_lt (number r) count ≡ false → misplaced_behind number count given (r ∷ rest) ≡ Some (Stranger (number r))
  stranger_step count given r rest past = rw past refl

  double_step : (count : ℕ) (given : List X) (r : X) (rest : List X) → nat_lt (number r) count ≡ true → has_number number (number r) given ≡ true
      → misplaced_behind number count given (r ∷ rest) ≡ Some (Double (number r))
  double_step count given r rest below twice = rw (below, twice) refl

  -- an item that has no place is what is wrong, whatever comes behind it
  pub no_place : (count : ℕ) (given : List X) (slots : List (Option X)) (r : X) (fault : GatherFault) (rest : List X) → Fits number count given slots → HasNoPlace (number r) slots fault
      → misplaced number count (given ++ r ∷ rest) ≡ Some fault
  no_place count given slots r fault rest f why =
      f.so_far (r ∷ rest)
      ∙ ⊎_elim
      (λ (p : (fault ≡ Stranger (number r)) × (length slots ≤ number r)).
      let past : count ≤ number r = subst (λ (n : ℕ). n ≤ number r) f.filled.len p.1 in
      stranger_step count given r rest (le-ltb (number r) count past) ∙ ap Some (sym p.0))
      (λ (p : (fault ≡ Double (number r)) × (number r < length slots) × (is_some (get_or slots (number r) None) ≡ true)).
      let below : number r < count = subst (λ (n : ℕ). number r < n) f.filled.len p.1 in
      let q = taken_by (get_or slots (number r) None) p.2 in
      double_step count given r rest (lt-ltb (number r) count below) (taken_place count given slots (number r) q.0 f.filled q.1) ∙ ap Some (sym p.0))
      why

  -- ---- the least number that is missing

  missing_at : (more k n : ℕ) (given : List X) → k ≤ n → n < k + more → ((j : ℕ) → k ≤ j → j < n → has_number number j given ≡ true) → has_number number n given ≡ false
      → missing_from number k more given ≡ Some n
  missing_at zero k n given from below all absent = absurd (omega (arith, from, below))
  missing_at (suc more) k n given from below all absent = ⊎_elim
      (λ (before : k < n). rw (all k (omega arith) before) (missing_at more (k + 1) n given (omega (arith, before)) (omega (arith, below)) (λ j le lt. all j (omega (arith, le)) lt) absent))
      (λ (not_before : n ≤ k).
      let same : k ≡ n = omega (arith, from, not_before) in
      let here : has_number number k given ≡ false = subst (λ (m : ℕ). has_number number m given ≡ false) (sym same) absent in
      rw here (ap Some same))
      (cases_lt k n)

  none_missing : (more k : ℕ) (given : List X) → ((j : ℕ) → k ≤ j → j < k + more → has_number number j given ≡ true) → missing_from number k more given ≡ None
  none_missing zero k given all = refl
  none_missing (suc more) k given all =
      rw (all k (omega arith) (omega arith)) (none_missing more (k + 1) given (λ j le lt. all j (omega (arith, le)) (omega (arith, lt))))

  gathered_in : (count : ℕ) (given out : List X) → Filled number count given (map Some out) → AreInOrder number count given out
  gathered_in count given out g = record {
    len = sym (length_of_map out) ∙ g.len;
    none_lost = sym g.many ∙ all_taken out ∙ sym (length_of_map out) ∙ g.len;
    placed = λ r has. sym (at_place out (number r)) ∙ g.placed r has;
    found = λ k r has. g.found k r (at_place out k ∙ has);
  }

  -- places that are all taken
  pub gathered : (count : ℕ) (given out : List X) (slots : List (Option X)) → Fits number count given slots → map Some out ≡ slots → AreInOrder number count given out
  gathered count given out slots f same = gathered_in count given out (subst (λ (s : List (Option X)). Filled number count given s) (sym same) f.filled)

  -- what is wrong with items that all have a place
  wrong_at_end : (count : ℕ) (given : List X) (slots : List (Option X)) → Fits number count given slots → misplaced number count given ≡ misplaced_behind number count given []
  wrong_at_end count given slots f = ap (misplaced number count) (sym (append-nil given)) ∙ f.so_far []

  end_step : (count : ℕ) (given : List X) (o : Option ℕ) → missing_from number 0 count given ≡ o → misplaced_behind number count given [] ≡ option_map Missing o
  end_step count given o is = ap (option_map Missing) is

  pub nothing_wrong : (count : ℕ) (given out : List X) (slots : List (Option X)) → Fits number count given slots → map Some out ≡ slots → misplaced number count given ≡ None
  nothing_wrong count given out slots f same =
      let len : length out ≡ count = sym (length_of_map out) ∙ ap length same ∙ f.filled.len in
      wrong_at_end count given slots f
      ∙ end_step count given None (none_missing count 0 given (λ j from below.
      let q = taken_at out [] j (omega (arith, below, len)) in
      taken_place count given slots j q.0 f.filled (subst (λ (s : List (Option X)). get_or s j None ≡ Some q.0) (append-nil (map Some out) ∙ same) q.1)))

  pub least_missing : (count : ℕ) (given taken : List X) (rest slots : List (Option X)) → Fits number count given slots → slots ≡ map Some taken ++ None ∷ rest
      → misplaced number count given ≡ Some (Missing (length taken))
  least_missing count given taken rest slots f is =
      let longer = length-append (map Some taken) (None ∷ rest) in
      let len : length (map Some taken ++ None ∷ rest) ≡ count = ap length (sym is) ∙ f.filled.len in
      let same_len = length_of_map taken in
      let below : length taken < count = omega (arith, longer, len, same_len) in
      wrong_at_end count given slots f
      ∙ end_step count given (Some (length taken)) (missing_at count 0 (length taken) given (omega arith) (omega (arith, below))
      (λ j from lt. let q = taken_at taken (None ∷ rest) j lt in
      taken_place count given slots j q.0 f.filled (subst (λ (s : List (Option X)). get_or s j None ≡ Some q.0) (sym is) q.1))
      (free_place count given slots (length taken) f.filled (subst (λ (s : List (Option X)). get_or s (length taken) None ≡ None) (sym is) (free_at taken rest))))

  -- ---- why

  never_full : (count : ℕ) (earlier rest : List X) → misplaced_behind number count earlier rest ≡ Some CountFull → ⊥
  never_full count earlier [] e = not_missing (missing_from number 0 count earlier) e
  never_full count earlier (r ∷ rest) e =
      no_full (nat_lt (number r) count) (has_number number (number r) earlier) (number r) (misplaced_behind number count (earlier ++ r ∷ []) rest) (never_full count (earlier ++ r ∷ []) rest) e

  pub why : (full : List X → Type 0) (count : ℕ) (given : List X) (fault : GatherFault) → (fault ≡ NoMemory) ⊎ (misplaced number count given ≡ Some fault)
      → IsWhyNot number full count given fault
  why full count given (Double n) h = ⊎_elim (λ (is : Double n ≡ NoMemory). absurd (cc)) (λ (is : misplaced number count given ≡ Some (Double n)). is) h
  why full count given (Stranger n) h = ⊎_elim (λ (is : Stranger n ≡ NoMemory). absurd (cc)) (λ (is : misplaced number count given ≡ Some (Stranger n)). is) h
  why full count given (Missing n) h = ⊎_elim (λ (is : Missing n ≡ NoMemory). absurd (cc)) (λ (is : misplaced number count given ≡ Some (Missing n)). is) h
  why full count given NoMemory h = tt
  why full count given CountFull h = ⊎_elim (λ (is : CountFull ≡ NoMemory). absurd (cc)) (λ (is : misplaced number count given ≡ Some CountFull). absurd (never_full count [] given is)) h
