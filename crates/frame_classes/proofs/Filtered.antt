-- Numbers of a range that pass tests.
use Rattle.std.proofs.Common.{◌≡◌, ◌⊎◌, ℕ, zero, suc, ◌+◌, ◌<◌, ◌≤◌, ◌==◌, Bool, true, false, cond, List, [], ◌∷◌, ◌++◌, arith, refl, ap, sym, subst, length, not, inl, inr, ◌∙◌}
use Rattle.std.specs.Prelude.{All, filter, nat_le}
use Rattle.std.specs.List.{list_any, range_with_len}
use Rattle.std.proofs.lemmas.Bool.{cases_eq, le-leb, ne_eqb}
use Rattle.std.proofs.lemmas.List.Elements.{All-cons, All-head, All-nil, All-tail, filter-append}
use Rattle.frame_classes.specs.Words.{AreInOrder}

-- ---- those that pass two tests

-- another second test keeps the same, if it agrees wherever the first passes
pub agree : (s p q : ℕ → Bool) (b n : ℕ) → ((k : ℕ) → b ≤ k → k < b + n → s k ≡ true → p k ≡ q k)
    → filter p (filter s (range_with_len b n)) ≡ filter q (filter s (range_with_len b n))
agree s p q b zero h = refl
agree s p q b (suc n) h =
    by_test (s b) refl (h b (omega arith) (omega arith)) (agree s p q (b + 1) n (λ k l u. h k (omega (arith, l)) (omega (arith, u))))
  where
    by_test : (t : Bool) → s b ≡ t → (s b ≡ true → p b ≡ q b)
        → filter p (filter s (range_with_len (b + 1) n)) ≡ filter q (filter s (range_with_len (b + 1) n))
        → filter p (filter s (range_with_len b (suc n))) ≡ filter q (filter s (range_with_len b (suc n)))
    by_test false is same later = rw is later
    by_test true is same later = rw (is, same is) (ap (λ (ks : List ℕ). cond (q b) (b ∷ ks) ks) later)

-- none, where no number that passes the first passes the second
pub none_of : (s p : ℕ → Bool) (b n : ℕ) → ((k : ℕ) → b ≤ k → k < b + n → s k ≡ true → p k ≡ false) → filter p (filter s (range_with_len b n)) ≡ []
none_of s p b zero h = refl
none_of s p b (suc n) h =
    by_test (s b) refl (h b (omega arith) (omega arith)) (none_of s p (b + 1) n (λ k l u. h k (omega (arith, l)) (omega (arith, u))))
  where
    by_test : (t : Bool) → s b ≡ t → (s b ≡ true → p b ≡ false) → filter p (filter s (range_with_len (b + 1) n)) ≡ []
        → filter p (filter s (range_with_len b (suc n))) ≡ []
    by_test false is fails later = rw is later
    by_test true is fails later = rw (is, fails is) later

-- the first of them, and the others by a test that it fails
pub first_of : (s p q : ℕ → Bool) (b n place : ℕ) → b ≤ place → place < b + n → s place ≡ true → p place ≡ true
    → ((k : ℕ) → b ≤ k → k < place → s k ≡ true → p k ≡ false) → ((k : ℕ) → k ≤ place → q k ≡ false) → ((k : ℕ) → place < k → p k ≡ q k)
    → filter p (filter s (range_with_len b n)) ≡ place ∷ filter q (filter s (range_with_len b n))
first_of s p q b zero place least most is passes before behind after = absurd (omega (arith, least, most))
first_of s p q b (suc n) place least most is passes before behind after =
    by_place (cases_eq b place) (λ other. first_of s p q (b + 1) n place (omega (arith, least, other)) (omega (arith, most)) is passes
    (λ k l. before k (omega (arith, l))) behind after)
  where
    others : filter p (filter s (range_with_len (b + 1) n)) ≡ filter q (filter s (range_with_len (b + 1) n)) → b ≡ place
        → filter p (filter s (range_with_len b (suc n))) ≡ place ∷ filter q (filter s (range_with_len b (suc n)))
    others later same =
        let here : s b ≡ true = ap s same ∙ is in
        let one : p b ≡ true = ap p same ∙ passes in
        let other : q b ≡ false = behind b (omega (arith, same)) in
        rw (here, one, other)
        (ap (λ (ks : List ℕ). b ∷ ks) later ∙ ap (λ (k : ℕ). k ∷ filter q (filter s (range_with_len (b + 1) n))) same)

    by_test : (t : Bool) → s b ≡ t → b < place → (s b ≡ true → p b ≡ false)
        → filter p (filter s (range_with_len (b + 1) n)) ≡ place ∷ filter q (filter s (range_with_len (b + 1) n))
        → filter p (filter s (range_with_len b (suc n))) ≡ place ∷ filter q (filter s (range_with_len b (suc n)))
    by_test false here less fails later = rw here later
    by_test true here less fails later =
        let other : q b ≡ false = behind b (omega (arith, less)) in
        rw (here, fails here, other) later

    by_place : (b ≡ place) ⊎ (b ≡ place → ⊥)
        → ((b ≡ place → ⊥) → filter p (filter s (range_with_len (b + 1) n)) ≡ place ∷ filter q (filter s (range_with_len (b + 1) n)))
        → filter p (filter s (range_with_len b (suc n))) ≡ place ∷ filter q (filter s (range_with_len b (suc n)))
    by_place (inl same) later =
        others (agree s p q (b + 1) n (λ k l u there. after k (omega (arith, same, l)))) same
    by_place (inr other) later =
        let less : b < place = omega (arith, least, other) in
        by_test (s b) refl less (before b (omega arith) less) (later other)

-- ---- those that pass one

pub none_that : (s : ℕ → Bool) (b n : ℕ) → ((k : ℕ) → b ≤ k → k < b + n → s k ≡ false) → filter s (range_with_len b n) ≡ []
none_that s b zero h = refl
none_that s b (suc n) h =
    let here = h b (omega arith) (omega arith) in
    rw here (none_that s (b + 1) n (λ k l u. h k (omega (arith, l)) (omega (arith, u))))

-- where those that pass are below a place, no number from there on passes
pub none_behind : (s : ℕ → Bool) (b n place : ℕ) → All (λ k. k < place) (filter s (range_with_len b n)) → (k : ℕ) → b ≤ k → k < b + n → place ≤ k → s k ≡ false
none_behind s b zero place all k least most from = absurd (omega (arith, least, most))
none_behind s b (suc n) place all k least most from =
    by_test (s b) refl all (cases_eq b k) (λ rest other. none_behind s (b + 1) n place rest k (omega (arith, least, other)) (omega (arith, most)) from)
  where
    by_test : (t : Bool) → s b ≡ t → All (λ k. k < place) (filter s (range_with_len b (suc n))) → (b ≡ k) ⊎ (b ≡ k → ⊥)
        → (All (λ k. k < place) (filter s (range_with_len (b + 1) n)) → (b ≡ k → ⊥) → s k ≡ false) → s k ≡ false
    by_test false is all (inl same) later = ap s (sym same) ∙ is
    by_test false is all (inr other) later = later (rw is at all) other
    by_test true is all (inl same) later =
        let these : All (λ k. k < place) (b ∷ filter s (range_with_len (b + 1) n)) = rw is at all in
        let less : b < place = All-head (λ k. k < place) b (filter s (range_with_len (b + 1) n)) these in
        absurd (omega (arith, less, same, from))
    by_test true is all (inr other) later =
        let these : All (λ k. k < place) (b ∷ filter s (range_with_len (b + 1) n)) = rw is at all in
        later (All-tail (λ k. k < place) b (filter s (range_with_len (b + 1) n)) these) other

-- one more passes, and stands behind them
pub one_more : (s t : ℕ → Bool) (b n place : ℕ) → b ≤ place → place < b + n → t place ≡ true → ((k : ℕ) → (k ≡ place → ⊥) → t k ≡ s k)
    → ((k : ℕ) → b ≤ k → k < b + n → place ≤ k → s k ≡ false)
    → filter t (range_with_len b n) ≡ filter s (range_with_len b n) ++ place ∷ []
one_more s t b zero place least most passes others none = absurd (omega (arith, least, most))
one_more s t b (suc n) place least most passes others none =
    by_place (cases_eq b place) (λ other. one_more s t (b + 1) n place (omega (arith, least, other)) (omega (arith, most)) passes others
    (λ k l u. none k (omega (arith, l)) (omega (arith, u))))
  where
    by_test : (x : Bool) → s b ≡ x → t b ≡ s b → filter t (range_with_len (b + 1) n) ≡ filter s (range_with_len (b + 1) n) ++ place ∷ []
        → filter t (range_with_len b (suc n)) ≡ filter s (range_with_len b (suc n)) ++ place ∷ []
    by_test false is same later = rw (same, is) later
    by_test true is same later = rw (same, is) (ap (λ (ks : List ℕ). b ∷ ks) later)

    by_place : (b ≡ place) ⊎ (b ≡ place → ⊥)
        → ((b ≡ place → ⊥) → filter t (range_with_len (b + 1) n) ≡ filter s (range_with_len (b + 1) n) ++ place ∷ [])
        → filter t (range_with_len b (suc n)) ≡ filter s (range_with_len b (suc n)) ++ place ∷ []
    by_place (inl same) later =
        let before = none_that s (b + 1) n (λ k l u. none k (omega (arith, l)) (omega (arith, u)) (omega (arith, l, same))) in
        let after = none_that t (b + 1) n (λ k l u. others k (λ e. omega (arith, e, l, same)) ∙ none k (omega (arith, l)) (omega (arith, u)) (omega (arith, l, same))) in
        let here : s b ≡ false = none b (omega arith) (omega arith) (omega (arith, same)) in
        let now : t b ≡ true = ap t same ∙ passes in
        rw (here, now, before, after) (ap (λ (k : ℕ). k ∷ []) same)
    by_place (inr other) later = by_test (s b) refl (others b other) (later other)

-- ---- their order

in_order_from : (more least end : ℕ) (ks : List ℕ) → least ≤ more → AreInOrder more end ks → AreInOrder least end ks
in_order_from more least end [] le h = tt
in_order_from more least end (k ∷ ks) le h = let first = h.0 in (omega (arith, first, le), h.1)

pub range_in_order : (s : ℕ → Bool) (b n end : ℕ) → end ≡ b + n → AreInOrder b end (filter s (range_with_len b n))
range_in_order s b zero end is = tt
range_in_order s b (suc n) end is = by_test (s b) refl (range_in_order s (b + 1) n end (omega (arith, is)))
  where
    by_test : (t : Bool) → s b ≡ t → AreInOrder (b + 1) end (filter s (range_with_len (b + 1) n)) → AreInOrder b end (filter s (range_with_len b (suc n)))
    by_test false here later = rw here (in_order_from (b + 1) b end (filter s (range_with_len (b + 1) n)) (omega arith) later)
    by_test true here later = rw here (omega arith, (omega (arith, is), later))

pub filter_in_order : (p : ℕ → Bool) (least end : ℕ) (ks : List ℕ) → AreInOrder least end ks → AreInOrder least end (filter p ks)
filter_in_order p least end [] h = tt
filter_in_order p least end (k ∷ ks) h = by_test (p k) refl (filter_in_order p (k + 1) end ks h.1.1)
  where
    by_test : (t : Bool) → p k ≡ t → AreInOrder (k + 1) end (filter p ks) → AreInOrder least end (filter p (k ∷ ks))
    by_test false is later = rw is (in_order_from (k + 1) least end (filter p ks) (let first = h.0 in omega (arith, first)) later)
    by_test true is later = rw is (h.0, (h.1.0, later))

-- those before one are below it, and it is below the end
pub order_before : (least end : ℕ) (before after : List ℕ) (k : ℕ) → AreInOrder least end (before ++ k ∷ after) → All (λ x. x < k) before × ((least ≤ k) × (k < end))
order_before least end [] after k h = (All-nil (λ x. x < k), (h.0, h.1.0))
order_before least end (x ∷ xs) after k h =
    let first = h.0 in
    let rest = order_before (x + 1) end xs after k h.1.1 in
    let less = rest.1.0 in
    (All-cons (λ x. x < k) x xs (omega (arith, less)) rest.0, (omega (arith, first, less), rest.1.1))

-- ---- from a place on

pub all_from_0 : (ks : List ℕ) → filter (nat_le 0) ks ≡ ks
all_from_0 [] = refl
all_from_0 (k ∷ ks) =
    let here : nat_le 0 k ≡ true = le-leb 0 k (omega arith) in
    let rest = all_from_0 ks in
    rw here (ap (λ (xs : List ℕ). k ∷ xs) rest)

-- the next of those that pass of some in order, where those before it are known
pub next_in_order : (test : ℕ → Bool) (end : ℕ) (left before rest later : List ℕ) (k : ℕ) → AreInOrder 0 end left → rest ≡ k ∷ later → test k ≡ true
    → before ++ filter test rest ≡ filter test left → All (λ x. x < k) before × (k < end)
next_in_order test end left before rest later k order is passes same =
    let all : AreInOrder 0 end (before ++ filter test rest) = subst (AreInOrder 0 end) (sym same) (filter_in_order test 0 end left order) in
    let next : filter test rest ≡ k ∷ filter test later = ap (filter test) is ∙ kept passes in
    let parts = order_before 0 end before (filter test later) k (subst (λ (ks : List ℕ). AreInOrder 0 end (before ++ ks)) next all) in
    (parts.0, parts.1.1)
  where
    kept : test k ≡ true → filter test (k ∷ later) ≡ k ∷ filter test later
    kept h = rw h refl

order_all : (least end : ℕ) (ks : List ℕ) → AreInOrder least end ks → All (λ k. k < end) ks
order_all least end [] h = All-nil (λ k. k < end)
order_all least end (k ∷ ks) h = All-cons (λ k. k < end) k ks h.1.0 (order_all (k + 1) end ks h.1.1)

-- those of a range that pass are below its end
pub below_end : (p : ℕ → Bool) (n : ℕ) → All (λ k. k < n) (filter p (range_with_len 0 n))
below_end p n = order_all 0 n (filter p (range_with_len 0 n)) (range_in_order p 0 n n (omega arith))

counting : (b n : ℕ) → range_with_len b (suc n) ≡ range_with_len b n ++ (b + n) ∷ []
counting b zero = let same : b ≡ b + 0 = omega arith in ap (λ (k : ℕ). k ∷ []) same
counting b (suc n) =
    let same : b + 1 + n ≡ b + suc n = omega arith in
    ap (λ (ks : List ℕ). b ∷ ks) (counting (b + 1) n ∙ ap (λ (k : ℕ). range_with_len (b + 1) n ++ k ∷ []) same)

-- those of a range that is one longer
pub longer : (p : ℕ → Bool) (n : ℕ) → filter p (range_with_len 0 (n + 1)) ≡ filter p (range_with_len 0 n) ++ cond (p n) (n ∷ []) []
longer p n =
    let next : n + 1 ≡ suc n = omega arith in
    let last : 0 + n ≡ n = omega arith in
    ap (filter p) (ap (range_with_len 0) next ∙ counting 0 n ∙ ap (λ (k : ℕ). range_with_len 0 n ++ k ∷ []) last)
    ∙ filter-append p (range_with_len 0 n) (n ∷ [])

-- whether some pass
pub some_kept : (p : ℕ → Bool) (ks : List ℕ) → list_any p ks ≡ not (length (filter p ks) == 0)
some_kept p [] = refl
some_kept p (k ∷ ks) = by_test (p k) refl (some_kept p ks)
  where
    by_test : (t : Bool) → p k ≡ t → list_any p ks ≡ not (length (filter p ks) == 0) → list_any p (k ∷ ks) ≡ not (length (filter p (k ∷ ks)) == 0)
    by_test true is later =
        let more : (suc (length (filter p ks)) == 0) ≡ false = ne_eqb (suc (length (filter p ks))) 0 (λ e. omega (arith, e)) in
        rw (is, more) refl
    by_test false is later = rw is later
