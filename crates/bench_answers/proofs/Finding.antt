-- A search among requests, one request on.
use Rattle.std.proofs.Common.{◌≡◌, ◌<◌, ◌≤◌, ◌+◌, ℕ, zero, suc, Bool, true, false, cond, List, [], ◌∷◌, length, drop, get_or, min, take, ◌≢◌, Some, None, Decides, refl, ap, sym, subst, ◌∙◌, arith, add-one}
use Rattle.std.specs.Prelude.{◌==◌, ◌||◌}
use Rattle.std.specs.List.{list_any, position_from, slice_get}
use Rattle.std.proofs.lemmas.Bool.{eq-eqb, ne_eqb}
use Rattle.std.proofs.lemmas.List.{drop_all}
use Rattle.std.proofs.lemmas.List.Folds.{list_any-append}
use Rattle.omci_msg.specs.declared.reply.Reply.{Reply}
use Rattle.bench_reply.specs.Kept.{IsExpected}
use Rattle.bench_reply.specs.Replies.{HasHeadOf, IsReplyTo, Wanted, has_head, is_reply}
use Rattle.bench_reply.specs.declared.expected.Expected.{Expected}
use Rattle.bench_reply.proofs.Decided.{decided_alike, head_decided, reply_decided}
use Rattle.bench_answers.specs.Kept.{AreExpected}
use Rattle.bench_answers.proofs.Places.{element_at, take_with}

or_false : (b : Bool) → (b || false) ≡ b
or_false true = refl
or_false false = refl

or_true : (b : Bool) → (b || true) ≡ true
or_true true = refl
or_true false = refl

drop_get : {X : Type 0} (xs : List X) (i : ℕ) (x : X) → slice_get xs i ≡ Some x → drop i xs ≡ x ∷ drop (suc i) xs
drop_get [] i x at = absurd (cc at)
drop_get (y ∷ xs) zero x at = cc at
drop_get (y ∷ xs) (suc i) x at = drop_get xs i x at

module _ {X : Type 0} (test : X → Bool) (xs : List X) (i : ℕ) (x : X) (at : slice_get xs i ≡ Some x) where
  -- the element passes
  pub found_here : test x ≡ true → position_from test i (drop i xs) ≡ Some i
  found_here passes = ap (λ ys. position_from test i ys) (drop_get xs i x at) ∙ ap (λ b. cond b (Some i) (position_from test (i + 1) (drop (suc i) xs))) passes

  -- it doesn't
  pub found_later : test x ≡ false → position_from test i (drop i xs) ≡ position_from test (i + 1) (drop (i + 1) xs)
  found_later fails =
      rw add-one (ap (λ ys. position_from test i ys) (drop_get xs i x at) ∙ rw add-one (ap (λ b. cond b (Some i) (position_from test (suc i) (drop (suc i) xs))) fails))

  pub any_here : test x ≡ true → list_any test (drop i xs) ≡ true
  any_here passes = ap (λ ys. list_any test ys) (drop_get xs i x at) ∙ ap (λ b. b || list_any test (drop (suc i) xs)) passes

  pub any_later : test x ≡ false → list_any test (drop i xs) ≡ list_any test (drop (i + 1) xs)
  any_later fails = rw add-one (ap (λ ys. list_any test ys) (drop_get xs i x at) ∙ ap (λ b. b || list_any test (drop (suc i) xs)) fails)

-- what stands at a place that there is
pub read_at : {X : Type 0} (xs : List X) (i : ℕ) (d : X) → i < length xs → slice_get xs i ≡ Some (get_or xs i d)
read_at [] i d within = absurd (omega (arith, within))
read_at (x ∷ xs) zero d within = refl
read_at (x ∷ xs) (suc i) d within = read_at xs i d (omega (arith, within))

-- ---- the replies that requests are to get

module _ (modelled : Bool) (requests : List Wanted) (expected : List Expected) (i : ℕ) (d : Expected) (is : AreExpected modelled requests expected)
    (within : i < length expected) where
  here : (w : Wanted) × (slice_get requests i ≡ Some w)
  here = element_at requests i (omega (arith, within, is.count))

  kept : IsExpected modelled here.0 (get_or expected i d)
  kept = is.each i here.0 (get_or expected i d) here.1 (read_at expected i d within)

  module _ (bytes : List ℕ) (result : Bool) where
    module _ (told : (modelled : Bool) (w : Wanted) → IsExpected modelled w (get_or expected i d) → Decides result (IsReplyTo modelled w bytes)) where
      right_same : result ≡ is_reply modelled here.0 bytes
      right_same = decided_alike result (is_reply modelled here.0 bytes) (told modelled here.0 kept) (reply_decided modelled here.0 bytes)

      pub right_here : result ≡ true → position_from (λ w. is_reply modelled w bytes) i (drop i requests) ≡ Some i
      right_here so = found_here (λ w. is_reply modelled w bytes) requests i here.0 here.1 (sym right_same ∙ so)

      pub right_later : result ≡ false
          → position_from (λ w. is_reply modelled w bytes) i (drop i requests) ≡ position_from (λ w. is_reply modelled w bytes) (i + 1) (drop (i + 1) requests)
      right_later so = found_later (λ w. is_reply modelled w bytes) requests i here.0 here.1 (sym right_same ∙ so)

    module _ (told : Decides result (HasHeadOf (get_or expected i d).reply bytes)) where
      head_same : result ≡ has_head here.0.reply bytes
      head_same =
          decided_alike result (has_head here.0.reply bytes) (subst (λ r. Decides result (HasHeadOf r bytes)) kept.reply told) (head_decided here.0.reply bytes)

      pub head_here : result ≡ true → position_from (λ w. has_head w.reply bytes) i (drop i requests) ≡ Some i
      head_here so = found_here (λ w. has_head w.reply bytes) requests i here.0 here.1 (sym head_same ∙ so)

      pub head_later : result ≡ false
          → position_from (λ w. has_head w.reply bytes) i (drop i requests) ≡ position_from (λ w. has_head w.reply bytes) (i + 1) (drop (i + 1) requests)
      head_later so = found_later (λ w. has_head w.reply bytes) requests i here.0 here.1 (sym head_same ∙ so)

      -- the heads of the requests before a number
      front : list_any (λ w. has_head w.reply bytes) (take (i + 1) requests) ≡ (list_any (λ w. has_head w.reply bytes) (take i requests) || has_head here.0.reply bytes)
      front =
          ap (λ ws. list_any (λ w. has_head w.reply bytes) ws) (take_with requests i here.0 here.1)
          ∙ list_any-append (λ w. has_head w.reply bytes) (take i requests) (here.0 ∷ [])
          ∙ ap (λ b. list_any (λ w. has_head w.reply bytes) (take i requests) || b) (or_false (has_head here.0.reply bytes))

      pub front_has : result ≡ true → list_any (λ w. has_head w.reply bytes) (take (i + 1) requests) ≡ true
      front_has so = front ∙ ap (λ b. list_any (λ w. has_head w.reply bytes) (take i requests) || b) (sym head_same ∙ so) ∙ or_true (list_any (λ w. has_head w.reply bytes) (take i requests))

      pub front_lacks : result ≡ false → list_any (λ w. has_head w.reply bytes) (take i requests) ≡ false → list_any (λ w. has_head w.reply bytes) (take (i + 1) requests) ≡ false
      front_lacks so none = front ∙ ap (λ b. b || has_head here.0.reply bytes) none ∙ sym head_same ∙ so

  module _ (tci : ℕ) where
    tci_same : ((get_or expected i d).reply.tci == tci) ≡ (here.0.reply.tci == tci)
    tci_same = ap (λ (r : Reply). r.tci == tci) kept.reply

    pub tci_here : (get_or expected i d).reply.tci ≡ tci → list_any (λ w. w.reply.tci == tci) (drop i requests) ≡ true
    tci_here so = any_here (λ w. w.reply.tci == tci) requests i here.0 here.1 (sym tci_same ∙ eq-eqb (get_or expected i d).reply.tci tci so)

    pub tci_later : (get_or expected i d).reply.tci ≢ tci → list_any (λ w. w.reply.tci == tci) (drop i requests) ≡ list_any (λ w. w.reply.tci == tci) (drop (i + 1) requests)
    tci_later so = any_later (λ w. w.reply.tci == tci) requests i here.0 here.1 (sym tci_same ∙ ne_eqb (get_or expected i d).reply.tci tci so)

-- ---- behind the last request nothing is found

pub none_found : {X : Type 0} (test : X → Bool) (xs : List X) (i : ℕ) → length xs ≤ i → position_from test i (drop i xs) ≡ None
none_found test xs i past = ap (λ ys. position_from test i ys) (drop_all i xs past)

pub none_any : {X : Type 0} (test : X → Bool) (xs : List X) (i : ℕ) → length xs ≤ i → list_any test (drop i xs) ≡ false
none_any test xs i past = ap (λ ys. list_any test ys) (drop_all i xs past)

-- ---- a front that no element of it passes

none_of : (a b : Bool) → (a || b) ≡ false → (a ≡ false) × (b ≡ false)
none_of true b none = absurd (cc none)
none_of false b none = (refl, none)

one_of : (a b : Bool) → b ≡ true → (a || b) ≡ true
one_of true b one = refl
one_of false b one = one

pub front_none : {X : Type 0} (test : X → Bool) (xs : List X) (n count : ℕ) → list_any test (take n xs) ≡ false → min count (length xs) ≤ n
    → list_any test (take count xs) ≡ false
front_none test xs n zero none within = refl
front_none test [] n (suc count) none within = refl
front_none test (x ∷ xs) zero (suc count) none within = absurd (omega (arith, within))
front_none test (x ∷ xs) (suc n) (suc count) none within =
    let parts = none_of (test x) (list_any test (take n xs)) none in
    ap (λ b. b || list_any test (take count xs)) parts.0 ∙ front_none test xs n count parts.1 (omega (arith, within))

pub front_more : {X : Type 0} (test : X → Bool) (xs : List X) (n count : ℕ) → list_any test (take n xs) ≡ true → n ≤ count → list_any test (take count xs) ≡ true
front_more test xs zero count one within = absurd (cc one)
front_more test [] (suc n) count one within = absurd (cc one)
front_more test (x ∷ xs) (suc n) zero one within = absurd (omega (arith, within))
front_more test (x ∷ xs) (suc n) (suc count) one within =
    elim (test x) as (λ b. (b || list_any test (take n xs)) ≡ true → (b || list_any test (take count xs)) ≡ true) [
      | true ↦ λ is. refl
      | false ↦ λ is. front_more test xs n count is (omega (arith, within))
    ] one
