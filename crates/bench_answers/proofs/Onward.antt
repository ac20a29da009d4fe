-- What a reply stands for goes on from the replies before it.
use Rattle.std.proofs.Common.{◌≡◌, ◌<◌, ◌≤◌, ◌+◌, ◌-◌, ◌^◌, ℕ, zero, suc, Bool, true, false, cond, List, [], ◌∷◌, length, drop, Option, Some, None, refl, arith}
use Rattle.std.specs.Prelude.{◌||◌, is_some, nat_lt, not}
use Rattle.std.specs.List.{position_from}
use Rattle.std.proofs.lemmas.Bool.{ltb-true}
use Rattle.std.proofs.lemmas.List.{length-drop}
use Rattle.std.proofs.lemmas.Option.{same_Some, slice_get_within}
use Rattle.bench_history.specs.declared.event.Event.{Event}
use Rattle.bench_reply.specs.Replies.{Wanted, has_head, is_reply}
use Rattle.bench_answers.specs.Ground.{Ground}
use Rattle.bench_answers.specs.Asked.{last_sent, wanted, wanted_before}
use Rattle.bench_answers.specs.Kept.{IsNextOf}
use Rattle.bench_answers.specs.Right.{IsRightAs}
use Rattle.bench_answers.specs.Standing.{answered_last, answers_repeat, answers_start, excused_as, excused_of, is_absent, reach, reached, reached_by, repeated_number, standing_by, standing_of, start_reached}
use Rattle.bench_answers.specs.declared.standing.Standing.{Standing}
use Rattle.bench_answers.specs.declared.standing.Standing.TheVariants.{Answers, Absent}
use Rattle.bench_answers.proofs.Reaching.{front_reaches}

position_some : {X : Type 0} (test : X → Bool) (i : ℕ) (xs : List X) (k : ℕ) → position_from test i xs ≡ Some k → (i ≤ k) × (k < i + length xs)
position_some test i [] k is = absurd (cc is)
position_some test i (x ∷ xs) k is =
    elim (test x) as (λ b. cond b (Some i) (position_from test (i + 1) xs) ≡ Some k → (i ≤ k) × (k < i + length (x ∷ xs))) [
      | true ↦ λ e. let here : i ≡ k = same_Some i k e in (omega (arith, here), omega (arith, here))
      | false ↦ λ e. let later = position_some test (i + 1) xs k e in (omega (arith, later.0), omega (arith, later.1))
    ] is

-- what is found from a number on is one of these
pub found_within : {X : Type 0} (test : X → Bool) (from : ℕ) (xs : List X) (k : ℕ) → position_from test from (drop from xs) ≡ Some k → (from ≤ k) × (k < length xs)
found_within test from xs k is =
    let some = position_some test from (drop from xs) k is in
    (some.0, omega (arith, some.0, some.1, length-drop from xs))

-- with some replies no more is reached than with all
pub by_reaches : (replies : Option ℕ) (seen : List Standing) → reached_by replies seen ≤ reached seen
by_reaches None seen = omega arith
by_reaches (Some n) seen = front_reaches n seen

module _ (grounds : Ground) (before : List Event) (seen : List Standing) (bytes : List ℕ) where
  abbrev next : ℕ
  next = reached seen

  abbrev ws : List Wanted
  ws = wanted grounds before

  -- a request was answered last
  some_last : (n : ℕ) → answers_repeat grounds before seen bytes (answered_last n ws) ≡ true → 0 < n
  some_last zero is = absurd (cc is)
  some_last (suc n) is = omega arith

  number_is : (b : Bool) → answers_repeat grounds before seen bytes (answered_last next ws) ≡ b → (k : ℕ) → cond b (Some (next - 1)) None ≡ Some k → k + 1 ≡ next
  number_is true answers k is = omega (arith, some_last next answers, same_Some (next - 1) k is)
  number_is false answers k is = absurd (cc is)

  repeated_is : (k : ℕ) → repeated_number grounds before seen bytes ≡ Some k → k + 1 ≡ next
  repeated_is k is = number_is (answers_repeat grounds before seen bytes (answered_last next ws)) refl k is

  start_is : (b : Bool) (j : ℕ) → cond b None (position_from (λ w. is_reply grounds.modelled w bytes) (start_reached seen) (drop (start_reached seen) (wanted_before grounds))) ≡ Some j
      → (start_reached seen ≤ j) × (j < length (wanted_before grounds))
  start_is true j is = absurd (cc is)
  start_is false j is = found_within (λ w. is_reply grounds.modelled w bytes) (start_reached seen) (wanted_before grounds) j is

  -- it goes on, and reaches no more than there is
  abbrev GoesOn : Standing → Type 0
  GoesOn s = IsNextOf seen s × (reach s ≤ length ws)

  module _ (answered : next ≤ length ws) (few : length ws < 2 ^ 63) (few_before : length (wanted_before grounds) < 2 ^ 63) where
    by_parts : (r a : Option ℕ) → repeated_number grounds before seen bytes ≡ r → answers_start grounds before seen bytes ≡ a
        → IsRightAs grounds before bytes (standing_by r a next) → GoesOn (standing_by r a next)
    by_parts (Some k) a repeats of_start right = let same = repeated_is k repeats in (same, omega (arith, same, answered))
    by_parts None (Some j) repeats of_start right =
        let within = start_is (is_some (last_sent before)) j of_start in
        ((within.0, omega (arith, within.1, few_before)), omega arith)
    by_parts None None repeats of_start right =
        let within : next < length ws = slice_get_within ws next right.answers right.at in
        ((omega arith, omega (arith, within, few)), omega (arith, within))

    pub right_goes_on : IsRightAs grounds before bytes (standing_of grounds before seen bytes) → GoesOn (standing_of grounds before seen bytes)
    right_goes_on right = by_parts (repeated_number grounds before seen bytes) (answers_start grounds before seen bytes) refl refl right

    absent_or : (b : Bool) → is_absent grounds before seen bytes ≡ b → GoesOn (cond b Absent (Answers next))
    absent_or true is = (tt, omega arith)
    absent_or false is =
        let waits : next < length ws = some_waits (nat_lt next (length ws)) refl _ is in
        ((omega arith, omega (arith, waits, few)), omega (arith, waits))
      where
        some_waits : (b : Bool) → nat_lt next (length ws) ≡ b → (past : Bool) → (past || not b) ≡ false → next < length ws
        some_waits true is past none = ltb-true next (length ws) is
        some_waits false is true none = absurd (cc none)
        some_waits false is false none = absurd (cc none)

    excused_by : (found : Option ℕ) → position_from (λ w. has_head w.reply bytes) next (drop next ws) ≡ found → GoesOn (excused_as grounds before seen bytes found)
    excused_by (Some k) is =
        let within = found_within (λ w. has_head w.reply bytes) next ws k is in
        ((within.0, omega (arith, within.1, few)), omega (arith, within.1))
    excused_by None is = absent_or (is_absent grounds before seen bytes) refl

    pub excused_goes_on : GoesOn (excused_of grounds before seen bytes)
    excused_goes_on = excused_by (position_from (λ w. has_head w.reply bytes) next (drop next ws)) refl
