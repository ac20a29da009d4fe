-- Without repeats, without requests before the first event and without excused replies the k-th reply answers the k-th request that
-- wants an answer.
use Rattle.std.proofs.Common.{◌≡◌, ◌≤◌, ◌+◌, ◌-◌, ℕ, zero, suc, Bool, true, false, cond, List, [], ◌∷◌, ◌++◌, length, drop, max, take, Option, Some, None, inl, inr, refl, ap, sym, subst, ◌∙◌, arith, add-one, add-zero, append-nil, length-append}
use Rattle.std.specs.Prelude.{◌==◌, ◌&&◌, count_by, is_some, nat_lt, not}
use Rattle.std.specs.List.{cons_option, list_any, position_from, slice_get}
use Rattle.std.proofs.Math.Seq.{append_snoc}
use Rattle.std.proofs.lemmas.Bool.{le-ltb}
use Rattle.std.proofs.lemmas.Bool.Decides.{leb_tells}
use Rattle.std.proofs.lemmas.List.{take-append-le, take_all}
use Rattle.omci_msg.specs.declared.request.Request.{Request}
use Rattle.mib_state.specs.After.{accepted, after}
use Rattle.mib_upload.specs.Upload.{start}
use Rattle.bench_history.specs.History as history
use Rattle.bench_history.specs.History.{replies_in}
use Rattle.bench_history.specs.declared.event.Event.{Event}
use Rattle.bench_history.specs.declared.event.Event.TheVariants.{Sent, Replied, Excused, Waited}
use Rattle.bench_reply.specs.Replies.{Wanted, is_reply}
use Rattle.bench_reply.proofs.Fewer.{fewer_compared}
use Rattle.bench_answers.specs.Ground.{Ground, collected}
use Rattle.bench_answers.specs.Asked.{asked, asked_by, last_sent, repeated_by, repeats_of, version, wanted, wanted_from}
use Rattle.bench_answers.specs.Plain.{IsPlainRight, plain, plain_asked, plain_least, plain_most, plain_request, plain_waited, plain_waited_behind, plain_waits_for, plain_wanted}
use Rattle.bench_answers.specs.Right.{IsRight, IsRightAs, IsRightTo}
use Rattle.bench_answers.specs.Standing.{answered_last, answers_repeat, answers_start, is_repeat_of, reached, standing_by, standing_of, standings, stands, start_reached}
use Rattle.bench_answers.specs.Windows.{least_behind, most_behind, up_to, waited}
use Rattle.bench_answers.specs.declared.standing.Standing.{Standing}
use Rattle.bench_answers.specs.declared.standing.Standing.TheVariants.{Answers}
use Rattle.bench_answers.proofs.Collected.{standings_with}
use Rattle.bench_answers.proofs.Places.{element_at, take_with}
use Rattle.bench_answers.proofs.Reaching.{reached_more}
use Rattle.bench_answers.proofs.Steps.{count_more, waited_one, waited_same}

-- ---- messages

asks_plainly : (before : List Event) (event : Event) → asked_by false before event ≡ cons_option (plain_request event) []
asks_plainly before (Sent message) = refl
asks_plainly before event = refl

joined : {A : Type 0} (o : Option A) (xs : List A) → cons_option o [] ++ xs ≡ cons_option o xs
joined (Some x) xs = refl
joined None xs = refl

asked_behind : (before xs : List Event) → collected (asked_by false) before xs ≡ plain_asked xs
asked_behind before [] = refl
asked_behind before (x ∷ xs) =
    ap (λ (qs : List Request). qs ++ collected (asked_by false) (before ++ x ∷ []) xs) (asks_plainly before x)
    ∙ ap (λ (qs : List Request). cons_option (plain_request x) [] ++ qs) (asked_behind (before ++ x ∷ []) xs)
    ∙ joined (plain_request x) (plain_asked xs)

-- every request is carried out
pub plain_is_asked : (events : List Event) → asked false events ≡ plain_asked events
plain_is_asked events = asked_behind [] events

pub plain_is_wanted : (modelled : Bool) (events : List Event) → wanted (plain modelled) events ≡ plain_wanted events
plain_is_wanted modelled events = ap (wanted_from start) (plain_is_asked events)

repeats_nothing : (modelled : Bool) (before : List Event) (event : Event) → repeated_by (plain modelled) before event ≡ []
repeats_nothing modelled before (Sent message) = refl
repeats_nothing modelled before event = refl

none_behind : (modelled : Bool) (before xs : List Event) → collected (repeated_by (plain modelled)) before xs ≡ []
none_behind modelled before [] = refl
none_behind modelled before (x ∷ xs) =
    ap (λ (ns : List ℕ). ns ++ collected (repeated_by (plain modelled)) (before ++ x ∷ []) xs) (repeats_nothing modelled before x)
    ∙ none_behind modelled (before ++ x ∷ []) xs

no_repeats : (modelled : Bool) (events : List Event) (k : ℕ) → repeats_of (plain modelled) events k ≡ 0
no_repeats modelled events k = ap (λ (ns : List ℕ). count_by (λ n. n == k + 1) ns) (none_behind modelled [] events)

-- ---- replies

-- the answers to so many requests, in order
abbrev firsts : ℕ → List Standing
firsts zero = []
firsts (suc n) = firsts n ++ Answers n ∷ []

firsts_reach : (n : ℕ) → reached (firsts n) ≡ n
firsts_reach zero = refl
firsts_reach (suc n) = omega (arith, reached_more (firsts n) (Answers n), firsts_reach n)

firsts_count : (n : ℕ) → length (firsts n) ≡ n
firsts_count zero = refl
firsts_count (suc n) = omega (arith, length-append (firsts n) (Answers n ∷ []), firsts_count n)

drop_none : {A : Type 0} (n : ℕ) → drop n (let none : List A = [] in none) ≡ []
drop_none zero = refl
drop_none (suc n) = refl

-- no reply answers a repeat, or a request before the first event
no_repeat_by : (modelled : Bool) (before : List Event) (seen : List Standing) (bytes : List ℕ) (o : Option Wanted) → answers_repeat (plain modelled) before seen bytes o ≡ false
no_repeat_by modelled before seen bytes None = refl
no_repeat_by modelled before seen bytes (Some w) =
    let k : ℕ = reached seen - 1 in
    ap (λ n. nat_lt (count_by (is_repeat_of k) seen) n && is_reply modelled w bytes
    && not (list_any (λ other. other.reply.tci == w.reply.tci) (drop (reached seen) (wanted (plain modelled) before)))) (no_repeats modelled before k)
    ∙ ap (λ b. b && is_reply modelled w bytes && not (list_any (λ other. other.reply.tci == w.reply.tci) (drop (reached seen) (wanted (plain modelled) before))))
    (le-ltb (count_by (is_repeat_of k) seen) 0 (omega arith))

no_start : (b : Bool) → cond b None (let none : Option ℕ = None in none) ≡ None
no_start true = refl
no_start false = refl

stands_next : (modelled : Bool) (before : List Event) (seen : List Standing) (bytes : List ℕ) → standing_of (plain modelled) before seen bytes ≡ Answers (reached seen)
stands_next modelled before seen bytes =
    let from : ℕ = start_reached seen in
    ap (λ b. standing_by (cond b (Some (reached seen - 1)) None) (answers_start (plain modelled) before seen bytes) (reached seen))
    (no_repeat_by modelled before seen bytes (answered_last (reached seen) (wanted (plain modelled) before)))
    ∙ ap (λ (ws : List Wanted). standing_by None (cond (is_some (last_sent before)) None (position_from (λ w. is_reply modelled w bytes) from ws)) (reached seen)) (drop_none from)
    ∙ ap (λ (o : Option ℕ). standing_by None o (reached seen)) (no_start (is_some (last_sent before)))

firsts_front : (n count : ℕ) → n ≤ count → take n (firsts count) ≡ firsts n
firsts_front zero count within = refl
firsts_front (suc n) zero within = absurd (omega (arith, within))
firsts_front (suc n) (suc count) within =
    elim (leb_tells (suc n) count) [
      | inl front ↦
          take-append-le (suc n) (firsts count) (Answers count ∷ []) (omega (arith, front.1, firsts_count count)) ∙ firsts_front (suc n) count front.1
      | inr all ↦
          let same : suc count ≡ suc n = omega (arith, within, all.1) in
          take_all (suc n) (firsts (suc count)) (omega (arith, firsts_count (suc count), all.1)) ∙ ap (λ k. firsts k) same
    ]

-- ---- what is waited for

waited_more : (before xs : List Event) (event : Event)
    → plain_waited_behind before (xs ++ event ∷ []) ≡ max (plain_waited_behind before xs) (plain_waits_for (before ++ xs) event)
waited_more before [] event = omega (arith, ap (λ (es : List Event). plain_waits_for es event) (append-nil before))
waited_more before (x ∷ xs) event =
    let later = waited_more (before ++ x ∷ []) xs event in
    let same : plain_waits_for ((before ++ x ∷ []) ++ xs) event ≡ plain_waits_for (before ++ x ∷ xs) event =
    ap (λ (es : List Event). plain_waits_for es event) (append_snoc before x xs) in
    omega (arith, later, same)

plain_waited_with : (events : List Event) (place : ℕ) (event : Event) → slice_get events place ≡ Some event
    → plain_waited (take (place + 1) events) ≡ max (plain_waited (take place events)) (plain_waits_for (take place events) event)
plain_waited_with events place event at =
    ap (λ (es : List Event). plain_waited es) (take_with events place event at) ∙ waited_more [] (take place events) event

-- ---- up to a place

more_of : (n : ℕ) (b : Bool) → firsts n ++ cond b (Answers n ∷ []) [] ≡ firsts (n + cond b 1 0)
more_of n true = rw add-one refl
more_of n false = append-nil (firsts n) ∙ ap (λ k. firsts k) (sym (add-zero n))

module _ (modelled : Bool) (events : List Event) (none : (i : ℕ) (bytes : List ℕ) → slice_get events i ≡ Some (Excused bytes) → ⊥) where
  abbrev grounds : Ground
  grounds = plain modelled

  -- a reply is the next answer, and no other event is one
  stands_so : (place : ℕ) (event : Event) (n : ℕ) → slice_get events place ≡ Some event
      → stands grounds (take place events) (firsts n) event ≡ cond (history.is_reply event) (Answers n ∷ []) []
  stands_so place (Replied bytes) n at =
      ap (λ s. s ∷ []) (stands_next modelled (take place events) (firsts n) bytes ∙ ap (λ k. Answers k) (firsts_reach n))
  stands_so place (Excused bytes) n at = absurd (none place bytes at)
  stands_so place event n at = refl

  replies_with : (place : ℕ) (event : Event) → slice_get events place ≡ Some event
      → replies_in (take (place + 1) events) ≡ replies_in (take place events) + cond (history.is_reply event) 1 0
  replies_with place event at = ap (λ (es : List Event). replies_in es) (take_with events place event at) ∙ count_more history.is_reply (take place events) event

  -- a place within the events, or behind them
  behind_same : (place : ℕ) → length events ≤ place → take (place + 1) events ≡ take place events
  behind_same place past = take_all (place + 1) events (omega (arith, past)) ∙ sym (take_all place events past)

  standings_on : (place : ℕ) → standings grounds (take place events) ≡ firsts (replies_in (take place events))
      → standings grounds (take (place + 1) events) ≡ firsts (replies_in (take (place + 1) events))
  standings_on place so_far =
      elim (leb_tells (length events) place) [
        | inl past ↦ ap (λ (es : List Event). standings grounds es) (behind_same place past.1) ∙ so_far
            ∙ ap (λ (es : List Event). firsts (replies_in es)) (sym (behind_same place past.1))
        | inr within ↦
            let here = element_at events place within.1 in
            let n : ℕ = replies_in (take place events) in
            standings_with grounds events place here.0 here.1
            ∙ ap (λ (ss : List Standing). ss ++ stands grounds (take place events) ss here.0) so_far
            ∙ ap (λ (ss : List Standing). firsts n ++ ss) (stands_so place here.0 n here.1)
            ∙ more_of n (history.is_reply here.0) ∙ ap (λ k. firsts k) (sym (replies_with place here.0 here.1))
      ]

  -- the k-th reply answers the k-th request
  pub plain_standings : (place : ℕ) → standings grounds (take place events) ≡ firsts (replies_in (take place events))
  plain_standings zero = refl
  plain_standings (suc place) =
      subst (λ (p : ℕ). standings grounds (take p events) ≡ firsts (replies_in (take p events))) (add-one place) (standings_on place (plain_standings place))

  pub plain_reached : (place : ℕ) → reached (standings grounds (take place events)) ≡ replies_in (take place events)
  plain_reached place = ap (λ (ss : List Standing). reached ss) (plain_standings place) ∙ firsts_reach (replies_in (take place events))

  -- ---- right replies

  standing_is : (place : ℕ) (bytes : List ℕ)
      → standing_of grounds (take place events) (standings grounds (take place events)) bytes ≡ Answers (replies_in (take place events))
  standing_is place bytes =
      stands_next modelled (take place events) (standings grounds (take place events)) bytes ∙ ap (λ k. Answers k) (plain_reached place)

  pub right_plainly : (place : ℕ) (bytes : List ℕ) → IsRight grounds (take place events) bytes → IsPlainRight modelled (take place events) bytes
  right_plainly place bytes is =
      let to : IsRightTo grounds (take place events) (replies_in (take place events)) bytes =
      subst (λ (s : Standing). IsRightAs grounds (take place events) bytes s) (standing_is place bytes) is in
      record {
        answers = to.answers;
        next = ap (λ (ws : List Wanted). slice_get ws (replies_in (take place events))) (sym (plain_is_wanted modelled (take place events))) ∙ to.at;
        right = to.right;
      }

  pub plain_right : (place : ℕ) (bytes : List ℕ) → IsPlainRight modelled (take place events) bytes → IsRight grounds (take place events) bytes
  plain_right place bytes is =
      subst (λ (s : Standing). IsRightAs grounds (take place events) bytes s) (sym (standing_is place bytes))
      (record {
        answers = is.answers;
        at = ap (λ (ws : List Wanted). slice_get ws (replies_in (take place events))) (plain_is_wanted modelled (take place events)) ∙ is.next;
        right = is.right;
      })

  -- ---- versions

  pub plain_is_version : (place v : ℕ) → version grounds (take place events) v ≡ after (take v (accepted (plain_asked (take place events))))
  plain_is_version place v = ap (λ (qs : List Request). after (take v (accepted qs))) (plain_is_asked (take place events))

  pub plain_is_most : (place : ℕ) → most_behind grounds (take place events) ≡ plain_most (take place events)
  plain_is_most place = ap (λ (qs : List Request). length (accepted qs)) (plain_is_asked (take place events))

  -- ---- waits, of which none is for more replies than were seen

  module _ (order : (i n : ℕ) → slice_get events i ≡ Some (Waited (Some n)) → n ≤ replies_in (take i events)) where
    waits_so : (place : ℕ) (event : Event) → slice_get events place ≡ Some event
        → waited grounds (take (place + 1) events) ≡ max (waited grounds (take place events)) (plain_waits_for (take place events) event)
    waits_so place (Waited None) at =
        waited_one grounds events place (Waited None) at (reached (standings grounds (take place events))) refl
        ∙ ap (λ n. max (waited grounds (take place events)) n) (plain_reached place)
    waits_so place (Waited (Some n)) at =
        waited_one grounds events place (Waited (Some n)) at (reached (take n (standings grounds (take place events)))) refl
        ∙ ap (λ k. max (waited grounds (take place events)) k)
        (ap (λ (ss : List Standing). reached (take n ss)) (plain_standings place)
        ∙ ap (λ (ss : List Standing). reached ss) (firsts_front n (replies_in (take place events)) (order place n at)) ∙ firsts_reach n)
    waits_so place event at = waited_same grounds events place event at refl ∙ omega arith

    waited_on : (place : ℕ) → waited grounds (take place events) ≡ plain_waited (take place events)
        → waited grounds (take (place + 1) events) ≡ plain_waited (take (place + 1) events)
    waited_on place so_far =
        elim (leb_tells (length events) place) [
          | inl past ↦ ap (λ (es : List Event). waited grounds es) (behind_same place past.1) ∙ so_far
              ∙ ap (λ (es : List Event). plain_waited es) (sym (behind_same place past.1))
          | inr within ↦
              let here = element_at events place within.1 in
              waits_so place here.0 here.1 ∙ ap (λ n. max n (plain_waits_for (take place events) here.0)) so_far
              ∙ sym (plain_waited_with events place here.0 here.1)
        ]

    pub plain_is_waited : (place : ℕ) → waited grounds (take place events) ≡ plain_waited (take place events)
    plain_is_waited zero = refl
    plain_is_waited (suc place) =
        subst (λ (p : ℕ). waited grounds (take p events) ≡ plain_waited (take p events)) (add-one place) (waited_on place (plain_is_waited place))

    pub plain_is_least : (place : ℕ) → least_behind grounds (take place events) ≡ plain_least (take place events)
    plain_is_least place =
        ap (λ n. length (accepted (up_to n (asked false (take place events))))) (plain_is_waited place)
        ∙ ap (λ (qs : List Request). length (accepted (up_to (plain_waited (take place events)) qs))) (plain_is_asked (take place events))

-- a right reply is right where only what a model determines is compared
pub plain_right_now : (now before : Bool) (events : List Event) (bytes : List ℕ) → (before ≡ true → now ≡ true) → IsPlainRight before events bytes → IsPlainRight now events bytes
plain_right_now now before events bytes allow is = record {
  answers = is.answers;
  next = is.next;
  right = fewer_compared now before is.answers bytes allow is.right;
}
