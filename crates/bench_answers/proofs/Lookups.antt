-- What is looked up in what is kept of events.
use Rattle.std.proofs.Common.{◌≡◌, ◌<◌, ◌≤◌, ◌≢◌, ◌+◌, ◌-◌, ℕ, zero, suc, Bool, true, false, cond, List, ◌++◌, length, drop, take, Option, Some, None, Decides, inl, inr, refl, ap, sym, subst, ◌∙◌, arith}
use Rattle.std.specs.Prelude.{◌==◌, ◌&&◌, ◌||◌, count_by, is_some, nat_le, nat_lt, not}
use Rattle.std.specs.List.{list_any, position_from, slice_get}
use Rattle.std.proofs.lemmas.Bool.{le-ltb, lt-ltb}
use Rattle.std.proofs.lemmas.Bool.Decides.{leb_tells}
use Rattle.std.proofs.lemmas.List.{take-take, take_all}
use Rattle.std.proofs.lemmas.List.Folds.{list_any-append}
use Rattle.std.proofs.lemmas.Option.{same_Some, slice_get_within}
use Rattle.omci_msg.specs.declared.reply.Reply.{Reply}
use Rattle.mib_state.specs.After.{accepted}
use Rattle.bench_history.specs.declared.event.Event.{Event}
use Rattle.bench_reply.specs.Kept.{IsExpected}
use Rattle.bench_reply.specs.Replies.{IsReplyTo, Wanted, has_head, is_reply}
use Rattle.bench_reply.specs.declared.expected.Expected.{Expected}
use Rattle.bench_reply.proofs.Decided.{decided_alike, reply_decided}
use Rattle.bench_answers.specs.Ground.{Ground}
use Rattle.bench_answers.specs.Asked.{asked, repeats_of, wanted, wanted_before}
use Rattle.bench_answers.specs.Kept.{AreExpected, IsAnswersOf}
use Rattle.bench_answers.specs.Right.{IsAwaited, IsLater, IsRightTo, IsSentAt, meant_by, next_of}
use Rattle.bench_answers.specs.Standing.{answered_last, answers_repeat, answers_start, is_absent, is_repeat_of, reached, repeated_number, standings, start_reached}
use Rattle.bench_answers.specs.Windows.{least_behind, up_to, waited}
use Rattle.bench_answers.specs.declared.answers.Answers as kept
use Rattle.bench_answers.specs.declared.asking.Due.{Due}
use Rattle.bench_answers.specs.declared.standing.Standing.{Standing}
use Rattle.bench_answers.proofs.Places.{element_at, front_get}
use Rattle.bench_answers.proofs.Onward.{found_within}

module _ (grounds : Ground) (events : List Event) (place : ℕ) (answers : kept.Answers) (is : IsAnswersOf grounds events place answers) where
  abbrev before : List Event
  before = take place events

  abbrev seen : List Standing
  seen = standings grounds before

  abbrev next : ℕ
  next = answers.replies.counts.next

  abbrev ws : List Wanted
  ws = wanted grounds before

  -- ---- searches

  module _ (bytes : List ℕ) where
    abbrev has : Wanted → Bool
    has w = has_head w.reply bytes

    -- the first that waits and has the head
    pub waits_found : (expected : List Expected) → expected ≡ answers.asking.expected.items → (found : Option ℕ)
        → ((modelled : Bool) (requests : List Wanted) → AreExpected modelled requests expected → found ≡ position_from (λ w. has_head w.reply bytes) next (drop next requests))
        → found ≡ position_from has (reached seen) (drop (reached seen) ws)
    waits_found expected same found told =
        told grounds.modelled ws (subst (λ (es : List Expected). AreExpected grounds.modelled ws es) (sym same) is.asking.expected)
        ∙ ap (λ n. position_from has n (drop n ws)) is.replies.next

    -- the first before all events for which it is right
    pub start_found : (expected : List Expected) → expected ≡ answers.start.items → (found : Option ℕ)
        → ((modelled : Bool) (requests : List Wanted) → AreExpected modelled requests expected
        → found ≡ position_from (λ w. is_reply modelled w bytes) answers.replies.counts.start_next (drop answers.replies.counts.start_next requests))
        → found ≡ position_from (λ w. is_reply grounds.modelled w bytes) (start_reached seen) (drop (start_reached seen) (wanted_before grounds))
    start_found expected same found told =
        told grounds.modelled (wanted_before grounds) (subst (λ (es : List Expected). AreExpected grounds.modelled (wanted_before grounds) es) (sym same) is.start)
        ∙ ap (λ n. position_from (λ w. is_reply grounds.modelled w bytes) n (drop n (wanted_before grounds))) is.replies.start_next

    -- whether a request that was answered or left out has the head
    pub absent_split : is_absent grounds before seen bytes
        ≡ (list_any has (wanted_before grounds) || list_any has (take (reached seen) ws) || not (nat_lt (reached seen) (length ws)))
    absent_split = ap (λ b. b || not (nat_lt (reached seen) (length ws))) (list_any-append has (wanted_before grounds) (take (reached seen) ws))

    -- none of these is found where the head is the next one's
    pub not_later : (number k : ℕ) → Some number ≡ meant_by grounds before bytes → meant_by grounds before bytes ≡ Some k → number ≤ next → k ≡ next_of grounds before
    not_later number k one meant within =
        let same : number ≡ k = same_Some number k (one ∙ meant) in
        let some = found_within has (reached seen) ws k meant in
        omega (arith, same, some.0, within, is.replies.next)

    -- what is found was sent
    pub was_sent : (number : ℕ) → Some number ≡ meant_by grounds before bytes → slice_get answers.asking.due.items number ≡ None → ⊥
    was_sent number one none =
        let some = found_within has (reached seen) ws number (sym one) in
        let it = element_at answers.asking.due.items number (omega (arith, some.1, is.asking.count)) in
        cc (sym it.1 ∙ none)

    -- a reply is looked for among requests before all events where no message was sent
    pub start_looked : (found : Option ℕ) → is_some answers.asking.last ≡ false
        → found ≡ position_from (λ w. is_reply grounds.modelled w bytes) (start_reached seen) (drop (start_reached seen) (wanted_before grounds))
        → found ≡ answers_start grounds before seen bytes
    start_looked found none is_found =
        is_found ∙ sym (ap (λ b. cond b None (position_from (λ w. is_reply grounds.modelled w bytes) (start_reached seen) (drop (start_reached seen) (wanted_before grounds))))
        (ap (λ (o : Option (List ℕ)). is_some o) (sym is.asking.last) ∙ none))

    or_true : (a b : Bool) → b ≡ true → (a || b) ≡ true
    or_true true b one = refl
    or_true false b one = one

    -- a head is among those of requests that were answered or left out
    pub absent_of_start : list_any has (wanted_before grounds) ≡ true → true ≡ is_absent grounds before seen bytes
    absent_of_start one =
        sym (absent_split ∙ ap (λ b. b || list_any has (take (reached seen) ws) || not (nat_lt (reached seen) (length ws))) one)

    pub absent_of_past : list_any has (take (reached seen) ws) ≡ true → true ≡ is_absent grounds before seen bytes
    absent_of_past one =
        sym (absent_split ∙ ap (λ b. b || not (nat_lt (reached seen) (length ws)))
        (or_true (list_any has (wanted_before grounds)) (list_any has (take (reached seen) ws)) one))

    over : (a b : ℕ) → nat_le a b ≡ not (nat_lt b a)
    over a b =
        elim (leb_tells a b) [
          | inl at_most ↦ at_most.0 ∙ sym (ap (λ c. not c) (le-ltb b a at_most.1))
          | inr more ↦ more.0 ∙ sym (ap (λ c. not c) (lt-ltb b a more.1))
        ]

    -- or no request waits
    pub absent_of_none : (count : ℕ) → count ≡ length answers.asking.expected.items → list_any has (wanted_before grounds) ≡ false → list_any has (take (reached seen) ws) ≡ false
        → nat_le count next ≡ is_absent grounds before seen bytes
    absent_of_none count all none_before none_past =
        over count next ∙ ap (λ n. not (nat_lt n count)) is.replies.next ∙ ap (λ n. not (nat_lt (reached seen) n)) (all ∙ is.asking.expected.count)
        ∙ sym (absent_split ∙ ap (λ b. b || list_any has (take (reached seen) ws) || not (nat_lt (reached seen) (length ws))) none_before
        ∙ ap (λ b. b || not (nat_lt (reached seen) (length ws))) none_past)

    pub start_any : (expected : List Expected) (count : ℕ) (result : Bool) → expected ≡ answers.start.items → count ≡ length answers.start.items
        → ((modelled : Bool) (requests : List Wanted) → AreExpected modelled requests expected → result ≡ list_any (λ w. has_head w.reply bytes) (take count requests))
        → result ≡ list_any has (wanted_before grounds)
    start_any expected count result same all told =
        told grounds.modelled (wanted_before grounds) (subst (λ (es : List Expected). AreExpected grounds.modelled (wanted_before grounds) es) (sym same) is.start)
        ∙ ap (λ (vs : List Wanted). list_any has vs) (take_all count (wanted_before grounds) (omega (arith, all, is.start.count)))

    pub past_any : (expected : List Expected) (result : Bool) → expected ≡ answers.asking.expected.items
        → ((modelled : Bool) (requests : List Wanted) → AreExpected modelled requests expected → result ≡ list_any (λ w. has_head w.reply bytes) (take next requests))
        → result ≡ list_any has (take (reached seen) ws)
    past_any expected result same told =
        told grounds.modelled ws (subst (λ (es : List Expected). AreExpected grounds.modelled ws es) (sym same) is.asking.expected)
        ∙ ap (λ n. list_any has (take n ws)) is.replies.next

  -- ---- a request by its number

  -- what is expected of it
  pub expected_at : (k : ℕ) (e : Expected) → slice_get answers.asking.expected.items k ≡ Some e → (w : Wanted) × (slice_get ws k ≡ Some w) × IsExpected grounds.modelled w e
  expected_at k e here =
      let w = element_at ws k (omega (arith, slice_get_within answers.asking.expected.items k e here, is.asking.expected.count)) in
      (w.0, w.1, is.asking.expected.each k w.0 e w.1 here)

  -- where it was sent
  pub sent_at : (k : ℕ) (due : Due) → slice_get answers.asking.due.items k ≡ Some due → (w : Wanted) × IsSentAt grounds before k due.sent w
  sent_at k due here =
      let kept = is.asking.each k due here in (
        kept.answers,
        record {
          at = kept.at;
          message = kept.message;
          sent = front_get place events due.sent kept.within ∙ kept.sent;
          request = kept.request;
          before = ap (λ (es : List Event). length (wanted grounds es)) (take-take due.sent place events (omega (arith, kept.within))) ∙ kept.before;
        },
      )

  -- the next one
  pub next_awaited : (e : Expected) (due : Due) → slice_get answers.asking.expected.items next ≡ Some e → slice_get answers.asking.due.items next ≡ Some due
      → IsAwaited grounds before (record { sent = due.sent; reply = e.reply })
  next_awaited e due here also =
      let sent = sent_at next due also in
      let told = expected_at next e here in
      record {
        answers = sent.0;
        sent = subst (λ (k : ℕ). IsSentAt grounds before k due.sent sent.0) is.replies.next sent.1;
        reply = told.2.reply ∙ ap (λ (w : Wanted). w.reply) (same_Some told.0 sent.0 (sym told.1 ∙ sent.1.at));
      }

  -- a later one
  pub later_meant : (bytes : List ℕ) (k : ℕ) (due : Due) → Some k ≡ meant_by grounds before bytes → next < k → slice_get answers.asking.due.items k ≡ Some due
      → IsLater grounds before bytes (record { sent = due.sent; skipped = k - next })
  later_meant bytes k due meant behind here =
      let sent = sent_at k due here in
      let same : k ≡ next_of grounds before + (k - next) = omega (arith, behind, is.replies.next) in
      record {
        answers = sent.0;
        meant = sym meant ∙ ap Some same;
        behind = omega (arith, behind);
        sent = subst (λ (n : ℕ). IsSentAt grounds before n due.sent sent.0) same sent.1;
      }

  -- ---- the least version

  pub least_by_due : (due : Due) → answers.waited ≢ 0 → slice_get answers.asking.due.items (answers.waited - 1) ≡ Some due → due.accepted ≡ least_behind grounds before
  least_by_due due some here =
      let kept = is.asking.each (answers.waited - 1) due here in
      let all : answers.waited - 1 + 1 ≡ waited grounds before = omega (arith, some, is.awaited) in
      kept.accepted ∙ ap (λ (n : ℕ). length (accepted (grounds.start ++ up_to n (asked grounds.repeats before)))) all

  -- ---- whether a reply is right

  -- as the answer to a request that there is
  pub right_by : (k : ℕ) (e : Expected) (bytes : List ℕ) (result : Bool) → slice_get answers.asking.expected.items k ≡ Some e
      → ((modelled : Bool) (w : Wanted) → IsExpected modelled w e → Decides result (IsReplyTo modelled w bytes)) → Decides result (IsRightTo grounds before k bytes)
  right_by k e bytes result here told =
      let w = expected_at k e here in
      let by = told grounds.modelled w.0 w.2 in (
        λ passes. record { answers = w.0; at = w.1; right = by.0 passes },
        λ right. by.1 (subst (λ (v : Wanted). IsReplyTo grounds.modelled v bytes) (same_Some right.answers w.0 (sym right.at ∙ w.1)) right.right),
      )

  -- or to none
  pub wrong_by : (k : ℕ) (bytes : List ℕ) → slice_get answers.asking.expected.items k ≡ None → Decides false (IsRightTo grounds before k bytes)
  wrong_by k bytes none = (
    λ passes. absurd (cc passes),
    λ right. absurd (some_there k (slice_get_within ws k right.answers right.at) none),
  )
    where
      some_there : (n : ℕ) → n < length ws → slice_get answers.asking.expected.items n ≡ None → ⊥
      some_there n within missing = let e = element_at answers.asking.expected.items n (omega (arith, within, is.asking.expected.count)) in cc (sym e.1 ∙ missing)

  -- ---- the request that was answered last

  -- as the definition has it
  last_is : (n : ℕ) (vs : List Wanted) → n ≢ 0 → answered_last n vs ≡ slice_get vs (n - 1)
  last_is zero vs some = absurd (some refl)
  last_is (suc k) vs some = let same : k ≡ suc k - 1 = omega arith in ap (λ m. slice_get vs m) same

  module _ (bytes : List ℕ) (some : next ≢ 0) (due : Due) (here : slice_get answers.asking.due.items (next - 1) ≡ Some due) where
    abbrev number : ℕ
    number = reached seen - 1

    one : (w : Wanted) × (slice_get ws (next - 1) ≡ Some w)
    one = let kept = is.asking.each (next - 1) due here in (kept.answers, kept.at)

    abbrev left : Bool
    left = nat_lt (count_by (is_repeat_of number) seen) (repeats_of grounds before number)

    abbrev others : Wanted → Bool
    others w = list_any (λ other. other.reply.tci == w.reply.tci) (drop (reached seen) ws)

    number_is : (w : Wanted) → slice_get ws (next - 1) ≡ Some w
        → repeated_number grounds before seen bytes ≡ cond (left && is_reply grounds.modelled w bytes && not (others w)) (Some number) None
    number_is w at =
        ap (λ (o : Option Wanted). cond (answers_repeat grounds before seen bytes o) (Some number) None)
        (last_is (reached seen) ws (λ e. some (is.replies.next ∙ e)) ∙ ap (λ n. slice_get ws (n - 1)) (sym is.replies.next) ∙ at)

    repeats_left : due.repeats ≡ repeats_of grounds before number
    repeats_left = (is.asking.each (next - 1) due here).repeats ∙ ap (λ n. repeats_of grounds before (n - 1)) is.replies.next

    no_more : (a b : Bool) → a ≡ false → cond (a && b) (Some number) None ≡ None
    no_more true b none = absurd (cc none)
    no_more false b none = refl

    pub none_left : due.repeats ≤ answers.replies.counts.repeated → None ≡ repeated_number grounds before seen bytes
    none_left few =
        let it = one in
        let over : left ≡ false = le-ltb (count_by (is_repeat_of number) seen) (repeats_of grounds before number) (omega (arith, few, repeats_left, is.replies.repeated)) in
        sym (number_is it.0 it.1 ∙ ap (λ b. cond (b && is_reply grounds.modelled it.0 bytes && not (others it.0)) (Some number) None) over)

    module _ (e : Expected) (also : slice_get answers.asking.expected.items (next - 1) ≡ Some e) (result : Bool)
        (told : (modelled : Bool) (w : Wanted) → IsExpected modelled w e → Decides result (IsReplyTo modelled w bytes)) where
      it : (w : Wanted) × (slice_get ws (next - 1) ≡ Some w) × IsExpected grounds.modelled w e
      it = expected_at (next - 1) e also

      right_as : result ≡ is_reply grounds.modelled it.0 bytes
      right_as = decided_alike result (is_reply grounds.modelled it.0 bytes) (told grounds.modelled it.0 it.2) (reply_decided grounds.modelled it.0 bytes)

      not_both : (a n : Bool) → cond (a && false && n) (Some number) None ≡ None
      not_both true n = refl
      not_both false n = refl

      pub not_right : result ≡ false → None ≡ repeated_number grounds before seen bytes
      not_right wrong =
          sym (number_is it.0 it.1 ∙ ap (λ b. cond (left && b && not (others it.0)) (Some number) None) (sym right_as ∙ wrong) ∙ not_both left (not (others it.0)))

      module _ (waits : Bool) (asked_so : (modelled : Bool) (requests : List Wanted) → AreExpected modelled requests answers.asking.expected.items
          → waits ≡ list_any (λ w. w.reply.tci == e.reply.tci) (drop next requests)) where
        waits_as : waits ≡ others it.0
        waits_as =
            asked_so grounds.modelled ws is.asking.expected
            ∙ ap (λ n. list_any (λ w. w.reply.tci == e.reply.tci) (drop n ws)) is.replies.next
            ∙ ap (λ (r : Reply). list_any (λ w. w.reply.tci == r.tci) (drop (reached seen) ws)) it.2.reply

        none_so : (a b : Bool) → cond (a && b && false) (Some number) None ≡ None
        none_so true true = refl
        none_so true false = refl
        none_so false b = refl

        pub one_waits : waits ≡ true → None ≡ repeated_number grounds before seen bytes
        one_waits so =
            sym (number_is it.0 it.1 ∙ ap (λ b. cond (left && is_reply grounds.modelled it.0 bytes && not b) (Some number) None) (sym waits_as ∙ so)
            ∙ none_so left (is_reply grounds.modelled it.0 bytes))

        pub all_so : answers.replies.counts.repeated < due.repeats → result ≡ true → waits ≡ false → Some (next - 1) ≡ repeated_number grounds before seen bytes
        all_so more right none =
            let under : left ≡ true = lt-ltb (count_by (is_repeat_of number) seen) (repeats_of grounds before number) (omega (arith, more, repeats_left, is.replies.repeated)) in
            ap (λ n. Some (n - 1)) is.replies.next
            ∙ sym (number_is it.0 it.1 ∙ ap (λ b. cond (b && is_reply grounds.modelled it.0 bytes && not (others it.0)) (Some number) None) under
            ∙ ap (λ b. cond (b && not (others it.0)) (Some number) None) (sym right_as ∙ right)
            ∙ ap (λ b. cond (not b) (Some number) None) (sym waits_as ∙ none))
