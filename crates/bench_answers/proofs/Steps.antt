-- What events say of messages, replies and waits, one event on.
use Rattle.std.proofs.Common.{◌≡◌, ◌+◌, ◌==◌, ℕ, Bool, true, false, cond, List, [], ◌∷◌, ◌++◌, take, max, Some, refl, ap, sym, ◌∙◌, arith, append-nil}
use Rattle.std.specs.Prelude.{count_by}
use Rattle.std.specs.List.{slice_get}
use Rattle.std.proofs.lemmas.List.Recursion.{is_count_by}
use Rattle.omci_msg.specs.declared.request.Request.{Request}
use Rattle.bench_history.specs.declared.event.Event.{Event}
use Rattle.bench_answers.specs.Ground.{Ground, collected}
use Rattle.bench_answers.specs.Asked.{asked, asked_by, last_sent, last_with, repeated_by, repeats_of}
use Rattle.bench_answers.specs.Standing.{greatest, standings, stands}
use Rattle.bench_answers.specs.Windows.{waited, waits_for}
use Rattle.bench_answers.specs.declared.standing.Standing.{Standing}
use Rattle.bench_answers.proofs.Collected.{collected_with, last_sent_with, standings_with}

-- ---- counts and the greatest of more numbers

unfoldable pub counted : {X : Type 0} → (X → Bool) → List X → ℕ
counted test [] = 0
counted test (x ∷ xs) = cond (test x) (1 + counted test xs) (counted test xs)

pub counted_is : {X : Type 0} (test : X → Bool) (xs : List X) → counted test xs ≡ count_by test xs
unfolding counted
counted_is test xs = is_count_by (λ ys. counted test ys) test refl (λ y ys. refl) xs

counted_more : {X : Type 0} (test : X → Bool) (xs : List X) (x : X) → counted test (xs ++ x ∷ []) ≡ counted test xs + cond (test x) 1 0
unfolding counted
counted_more test [] x = elim (test x) as (λ b. cond b (1 + 0) 0 ≡ 0 + cond b 1 0) [ true ↦ refl | false ↦ refl ]
counted_more test (y ∷ xs) x =
    let more = counted_more test xs x in
    elim (test y) as (λ b. cond b (1 + counted test (xs ++ x ∷ [])) (counted test (xs ++ x ∷ [])) ≡ cond b (1 + counted test xs) (counted test xs) + cond (test x) 1 0) [
      | true ↦ omega (arith, more)
      | false ↦ more
    ]

pub count_more : {X : Type 0} (test : X → Bool) (xs : List X) (x : X) → count_by test (xs ++ x ∷ []) ≡ count_by test xs + cond (test x) 1 0
count_more test xs x =
    sym (counted_is test (xs ++ x ∷ [])) ∙ counted_more test xs x ∙ ap (λ n. n + cond (test x) 1 0) (counted_is test xs)

pub greatest_more : (xs : List ℕ) (n : ℕ) → greatest (xs ++ n ∷ []) ≡ max (greatest xs) n
greatest_more [] n = omega arith
greatest_more (x ∷ xs) n = omega (arith, greatest_more xs n)

-- ---- one event on

module _ (grounds : Ground) (events : List Event) (place : ℕ) (event : Event) (at : slice_get events place ≡ Some event) where
  abbrev before : List Event
  before = take place events

  abbrev behind : List Event
  behind = take (place + 1) events

  -- an event that asks nothing leaves what was asked
  pub asked_same : asked_by grounds.repeats before event ≡ [] → asked grounds.repeats behind ≡ asked grounds.repeats before
  asked_same none =
      collected_with (asked_by grounds.repeats) events place event at ∙ ap (λ (more : List Request). asked grounds.repeats before ++ more) none ∙ append-nil (asked grounds.repeats before)

  pub asked_one : (q : Request) → asked_by grounds.repeats before event ≡ q ∷ [] → asked grounds.repeats behind ≡ asked grounds.repeats before ++ q ∷ []
  asked_one q one = collected_with (asked_by grounds.repeats) events place event at ∙ ap (λ (more : List Request). asked grounds.repeats before ++ more) one

  -- one that repeats nothing leaves how often each request was repeated
  pub repeats_same : repeated_by grounds before event ≡ [] → (k : ℕ) → repeats_of grounds behind k ≡ repeats_of grounds before k
  repeats_same none k =
      ap (λ (ns : List ℕ). count_by (λ n. n == k + 1) ns)
      (collected_with (repeated_by grounds) events place event at ∙ ap (λ (more : List ℕ). collected (repeated_by grounds) [] before ++ more) none
      ∙ append-nil (collected (repeated_by grounds) [] before))

  pub repeats_one : (number : ℕ) → repeated_by grounds before event ≡ number ∷ [] → (k : ℕ)
      → repeats_of grounds behind k ≡ repeats_of grounds before k + cond (number == k + 1) 1 0
  repeats_one number one k =
      ap (λ (ns : List ℕ). count_by (λ n. n == k + 1) ns)
      (collected_with (repeated_by grounds) events place event at ∙ ap (λ (more : List ℕ). collected (repeated_by grounds) [] before ++ more) one)
      ∙ count_more (λ n. n == k + 1) (collected (repeated_by grounds) [] before) number

  pub last_is : last_sent behind ≡ last_with (last_sent before) event
  last_is = last_sent_with events place event at

  -- one that is no reply leaves what replies stand for
  pub standings_same : stands grounds before (standings grounds before) event ≡ [] → standings grounds behind ≡ standings grounds before
  standings_same none =
      standings_with grounds events place event at ∙ ap (λ (more : List Standing). standings grounds before ++ more) none ∙ append-nil (standings grounds before)

  pub standings_one : (standing : Standing) → stands grounds before (standings grounds before) event ≡ standing ∷ []
      → standings grounds behind ≡ standings grounds before ++ standing ∷ []
  standings_one standing one =
      standings_with grounds events place event at ∙ ap (λ (more : List Standing). standings grounds before ++ more) one

  -- one that is no wait leaves what is waited for
  pub waited_same : waits_for grounds before event ≡ [] → waited grounds behind ≡ waited grounds before
  waited_same none =
      ap (λ (ns : List ℕ). greatest ns)
      (collected_with (waits_for grounds) events place event at ∙ ap (λ (more : List ℕ). collected (waits_for grounds) [] before ++ more) none
      ∙ append-nil (collected (waits_for grounds) [] before))

  pub waited_one : (n : ℕ) → waits_for grounds before event ≡ n ∷ [] → waited grounds behind ≡ max (waited grounds before) n
  waited_one n one =
      ap (λ (ns : List ℕ). greatest ns)
      (collected_with (waits_for grounds) events place event at ∙ ap (λ (more : List ℕ). collected (waits_for grounds) [] before ++ more) one)
      ∙ greatest_more (collected (waits_for grounds) [] before) n
