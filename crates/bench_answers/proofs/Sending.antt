-- What is kept of messages, one event on.
use Rattle.std.proofs.Common.{◌≡◌, ◌<◌, ◌≤◌, ◌≢◌, ◌+◌, ◌-◌, ◌^◌, ℕ, Bool, true, false, cond, List, [], ◌∷◌, ◌++◌, length, take, min, set, Option, Some, None, Ok, inl, inr, refl, ap, sym, subst, ◌∙◌, arith, add-zero, append-nil, length-append, length-set}
use Rattle.std.specs.Prelude.{◌==◌, ◌&&◌}
use Rattle.std.specs.List.{cons_option, slice_get}
use Rattle.std.specs.Result.{result_ok}
use Rattle.std.proofs.lemmas.Bool.{eq-eqb, ne_eqb}
use Rattle.std.proofs.lemmas.Option.{slice_get_within}
use Rattle.std.proofs.lemmas.List.{append_assoc}
use Rattle.omci_msg.specs.declared.request.Request.{Request}
use Rattle.omci_msg.specs.Message.{request_of}
use Rattle.mib_state.specs.Entities.{Entities}
use Rattle.mib_state.specs.After.{accepted, after, is_accepted}
use Rattle.mib_upload.specs.Upload.{DeskState, answered, start}
use Rattle.bench_history.specs.declared.event.Event.{Event}
use Rattle.bench_history.specs.declared.event.Event.TheVariants.{Sent}
use Rattle.bench_reply.specs.Kept.{IsExpected}
use Rattle.bench_reply.specs.Replies.{Wanted}
use Rattle.bench_reply.specs.declared.expected.Expected.{Expected}
use Rattle.bench_answers.specs.Ground.{Ground}
use Rattle.bench_answers.specs.Asked.{asked, asked_by, desk_from, is_repeat, last_sent, last_with, repeated_by, repeats_of, request_in, requests_of, wanted, wanted_from, wants_answer}
use Rattle.bench_answers.specs.Kept.{AreExpected, IsAsking, IsCarriedOut, IsDue, IsExpectedAdded, IsRepeatCounted, repeated_once}
use Rattle.bench_answers.specs.Windows.{up_to}
use Rattle.bench_answers.specs.declared.asking.Asking.{Asking}
use Rattle.bench_answers.specs.declared.asking.Due.{Due}
use Rattle.bench_answers.proofs.Places.{element_at, get_last, get_more, get_pushed, get_written}
use Rattle.bench_answers.proofs.Requests.{accepted_more, desk_append, desk_more, entities_from, up_to_above, up_to_last, wanted_at, wanted_more}
use Rattle.bench_answers.proofs.Steps.{asked_one, asked_same, last_is, repeats_one, repeats_same}

-- ---- nothing more is asked

-- the requests that want an answer are those that there were
wanted_same : (grounds : Ground) (qs rs : List Request) → rs ≡ qs → wanted_from (desk_from start grounds.start) rs ≡ wanted_from (desk_from start grounds.start) qs
wanted_same grounds qs rs same = ap (wanted_from (desk_from start grounds.start)) same

module _ (grounds : Ground) (events : List Event) (place : ℕ) (same : asked grounds.repeats (take (place + 1) events) ≡ asked grounds.repeats (take place events)) where
  -- a request with as many repeats as there are
  pub due_same : (k : ℕ) (due : Due) (repeats : ℕ) → repeats ≡ repeats_of grounds (take (place + 1) events) k → repeats < place + 1
      → IsDue grounds events place k due → IsDue grounds events (place + 1) k (record due { repeats = repeats })
  due_same k due repeats counted few is = record {
    answers = is.answers;
    at = ap (λ (qs : List Request). slice_get (wanted_from (desk_from start grounds.start) qs) k) same ∙ is.at;
    message = is.message;
    sent = is.sent;
    request = is.request;
    within = omega (arith, is.within);
    before = is.before;
    accepted = is.accepted ∙ ap (λ (qs : List Request). length (accepted (grounds.start ++ up_to (k + 1) qs))) (sym same);
    repeats = counted;
    few = few;
  }

  -- what else is kept of messages, with other repeats
  pub asking_same : (old new : Asking) → new.modelled ≡ old.modelled → new.repeats ≡ old.repeats → new.desk ≡ old.desk → new.requests ≡ old.requests
      → new.expected ≡ old.expected → length new.due.items ≡ length old.due.items → new.last ≡ last_sent (take (place + 1) events)
      → ((k : ℕ) (due : Due) → slice_get new.due.items k ≡ Some due → IsDue grounds events (place + 1) k due)
      → ((k : ℕ) → length (wanted grounds (take place events)) ≤ k → repeats_of grounds (take (place + 1) events) k ≡ 0)
      → IsAsking grounds events place old → IsAsking grounds events (place + 1) new
  asking_same old new modelled repeats desk requests expected count last each unsent is = record {
    modelled = modelled ∙ is.modelled;
    repeats = repeats ∙ is.repeats;
    desk = desk ∙ is.desk ∙ ap (λ (qs : List Request). desk_from start (grounds.start ++ qs)) (sym same);
    requests = ap (λ v. v.items) requests ∙ is.requests ∙ ap (λ (qs : List Request). accepted (grounds.start ++ qs)) (sym same);
    last = last;
    expected =
        subst (λ (qs : List Request). AreExpected grounds.modelled (wanted_from (desk_from start grounds.start) qs) new.expected.items) (sym same)
        (subst (λ v. AreExpected grounds.modelled (wanted grounds (take place events)) v.items) (sym expected) is.expected);
    count = count ∙ is.count ∙ ap (λ (qs : List Request). length (wanted_from (desk_from start grounds.start) qs)) (sym same);
    each = each;
    unsent = λ k above. unsent k (omega (arith, above, ap (λ (qs : List Request). length (wanted_from (desk_from start grounds.start) qs)) same));
  }

-- an event that asks and repeats nothing
pub asking_quiet : (grounds : Ground) (events : List Event) (place : ℕ) (event : Event) (old new : Asking) → slice_get events place ≡ Some event
    → asked_by grounds.repeats (take place events) event ≡ [] → repeated_by grounds (take place events) event ≡ []
    → new.modelled ≡ old.modelled → new.repeats ≡ old.repeats → new.desk ≡ old.desk → new.requests ≡ old.requests → new.expected ≡ old.expected
    → new.due ≡ old.due → new.last ≡ last_with (last_sent (take place events)) event
    → IsAsking grounds events place old → IsAsking grounds events (place + 1) new
asking_quiet grounds events place event old new at none no_repeat modelled repeats desk requests expected due last is =
    let same = asked_same grounds events place event at none in
    let counts = repeats_same grounds events place event at no_repeat in
    asking_same grounds events place same old new modelled repeats desk requests expected (ap (λ v. length v.items) due)
    (last ∙ sym (last_is grounds events place event at))
    (λ k one here.
    let kept = is.each k one (ap (λ v. slice_get v.items k) (sym due) ∙ here) in
    due_same grounds events place same k one one.repeats (kept.repeats ∙ sym (counts k)) (omega (arith, kept.few)) kept)
    (λ k above. counts k ∙ is.unsent k above) is

-- ---- a message with a fault

none_asked : (b : Bool) → cond b [] (let none : List Request = [] in none) ≡ []
none_asked true = refl
none_asked false = refl

no_repeat_of : (b : Bool) (xs : List ℕ) → cond (b && false) xs [] ≡ []
no_repeat_of true xs = refl
no_repeat_of false xs = refl

pub faulty_sent : (grounds : Ground) (events : List Event) (place : ℕ) (message : List ℕ) (old new : Asking) → slice_get events place ≡ Some (Sent message)
    → request_in message ≡ None
    → new.modelled ≡ old.modelled → new.repeats ≡ old.repeats → new.desk ≡ old.desk → new.requests ≡ old.requests → new.expected ≡ old.expected
    → new.due ≡ old.due → new.last ≡ Some message
    → IsAsking grounds events place old → IsAsking grounds events (place + 1) new
faulty_sent grounds events place message old new at fault modelled repeats desk requests expected due last is =
    asking_quiet grounds events place (Sent message) old new at
    (ap (λ (o : Option Request). cond (is_repeat grounds.repeats (take place events) message) [] (cons_option o [])) fault ∙ none_asked (is_repeat grounds.repeats (take place events) message))
    (ap (λ (o : Option Request). cond (is_repeat grounds.repeats (take place events) message && wants_answer o) (length (wanted grounds (take place events)) ∷ []) []) fault
    ∙ no_repeat_of (is_repeat grounds.repeats (take place events) message) (length (wanted grounds (take place events)) ∷ []))
    modelled repeats desk requests expected due last is

-- ---- a repeat

-- the events before a place, at which a repeat is sent
module _ (grounds : Ground) (events : List Event) (place : ℕ) (message : List ℕ) (q : Request) (old new : Asking) (at : slice_get events place ≡ Some (Sent message))
    (read : request_in message ≡ Some q) (again : is_repeat grounds.repeats (take place events) message ≡ true) (few : place < 2 ^ 64)
    (modelled : new.modelled ≡ old.modelled) (repeats : new.repeats ≡ old.repeats) (desk : new.desk ≡ old.desk) (requests : new.requests ≡ old.requests)
    (expected : new.expected ≡ old.expected) (last : new.last ≡ Some message) (is : IsAsking grounds events place old) where
  none_more : asked_by grounds.repeats (take place events) (Sent message) ≡ []
  none_more = ap (λ b. cond b [] (cons_option (request_in message) [])) again

  repeated : (wants : Bool) → q.wants_answer ≡ wants → repeated_by grounds (take place events) (Sent message) ≡ cond wants (length (wanted grounds (take place events)) ∷ []) []
  repeated wants is_so =
      ap (λ b. cond (b && wants_answer (request_in message)) (length (wanted grounds (take place events)) ∷ []) []) again
      ∙ ap (λ (o : Option Request). cond (wants_answer o) (length (wanted grounds (take place events)) ∷ []) []) read
      ∙ ap (λ b. cond b (length (wanted grounds (take place events)) ∷ []) []) is_so

  unwanted : q.wants_answer ≡ false → new.due.items ≡ old.due.items → IsAsking grounds events (place + 1) new
  unwanted wants due =
      let same = asked_same grounds events place (Sent message) at none_more in
      let counts = repeats_same grounds events place (Sent message) at (repeated false wants) in
      asking_same grounds events place same old new modelled repeats desk requests expected (ap (λ (ds : List Due). length ds) due)
      (last ∙ sym (last_is grounds events place (Sent message) at))
      (λ k one here.
      let kept = is.each k one (ap (λ (ds : List Due). slice_get ds k) (sym due) ∙ here) in
      due_same grounds events place same k one one.repeats (kept.repeats ∙ sym (counts k)) (omega (arith, kept.few)) kept)
      (λ k above. counts k ∙ is.unsent k above) is

  -- how often each is repeated then
  counts_one : q.wants_answer ≡ true → (k : ℕ)
      → repeats_of grounds (take (place + 1) events) k ≡ repeats_of grounds (take place events) k + cond (length (wanted grounds (take place events)) == k + 1) 1 0
  counts_one wants k = repeats_one grounds events place (Sent message) at (length (wanted grounds (take place events))) (repeated true wants) k

  other_count : q.wants_answer ≡ true → (k : ℕ) → length (wanted grounds (take place events)) ≢ k + 1
      → repeats_of grounds (take (place + 1) events) k ≡ repeats_of grounds (take place events) k
  other_count wants k other =
      counts_one wants k ∙ ap (λ b. repeats_of grounds (take place events) k + cond b 1 0) (ne_eqb (length (wanted grounds (take place events))) (k + 1) other)
      ∙ add-zero (repeats_of grounds (take place events) k)

  last_count : q.wants_answer ≡ true → (k : ℕ) → length (wanted grounds (take place events)) ≡ k + 1
      → repeats_of grounds (take (place + 1) events) k ≡ repeats_of grounds (take place events) k + 1
  last_count wants k one =
      counts_one wants k ∙ ap (λ b. repeats_of grounds (take place events) k + cond b 1 0) (eq-eqb (length (wanted grounds (take place events))) (k + 1) one)

  counted : q.wants_answer ≡ true → (due : Due) → slice_get old.due.items (length old.due.items - 1) ≡ Some due
      → new.due.items ≡ set old.due.items (length old.due.items - 1) (repeated_once due) → IsAsking grounds events (place + 1) new
  counted wants due here written =
      let same = asked_same grounds events place (Sent message) at none_more in
      let n : ℕ = length old.due.items - 1 in
      let some : n < length old.due.items = slice_get_within old.due.items n due here in
      asking_same grounds events place same old new modelled repeats desk requests expected
      (ap (λ (ds : List Due). length ds) written ∙ length-set old.due.items n (repeated_once due))
      (last ∙ sym (last_is grounds events place (Sent message) at))
      (λ k one there.
      elim (get_written old.due.items n (repeated_once due) k one (ap (λ (ds : List Due). slice_get ds k) (sym written) ∙ there)) [
        | inl it ↦
            let kept = is.each n due here in
            subst (λ (d : Due). IsDue grounds events (place + 1) k d) it.1
            (subst (λ (m : ℕ). IsDue grounds events (place + 1) m (repeated_once due)) (sym it.0)
            (due_same grounds events place same n due (min (due.repeats + 1) (2 ^ 64 - 1))
            (omega (arith, kept.few, few, kept.repeats, last_count wants n (omega (arith, some, is.count)))) (omega (arith, kept.few)) kept))
        | inr it ↦
            let kept = is.each k one it.1 in
            due_same grounds events place same k one one.repeats
            (kept.repeats ∙ sym (other_count wants k (λ e. it.0 (omega (arith, e, is.count))))) (omega (arith, kept.few)) kept
      ])
      (λ k above. other_count wants k (λ e. omega (arith, e, above)) ∙ is.unsent k above) is

  -- without any request that wants an answer there is none to count
  none_counted : q.wants_answer ≡ true → old.due.items ≡ [] → new.due.items ≡ old.due.items → IsAsking grounds events (place + 1) new
  none_counted wants none due =
      let same = asked_same grounds events place (Sent message) at none_more in
      let no_wanted : length (wanted grounds (take place events)) ≡ 0 = sym is.count ∙ ap (λ (ds : List Due). length ds) none in
      asking_same grounds events place same old new modelled repeats desk requests expected (ap (λ (ds : List Due). length ds) due)
      (last ∙ sym (last_is grounds events place (Sent message) at))
      (λ k one there. cc (sym there ∙ ap (λ (ds : List Due). slice_get ds k) (due ∙ none)))
      (λ k above. other_count wants k (λ e. omega (arith, e, no_wanted)) ∙ is.unsent k above) is

  wanted_counted : q.wants_answer ≡ true → (ds : List Due) → ds ≡ old.due.items → IsRepeatCounted true old.due.items new.due.items
      → IsAsking grounds events (place + 1) new
  wanted_counted wants [] empty counts = none_counted wants (sym empty) (counts.empty (sym empty))
  wanted_counted wants (d ∷ ds) full counts =
      let here = element_at old.due.items (length old.due.items - 1) (omega (arith, ap (λ (xs : List Due). length xs) full)) in
      counted wants here.0 here.1 (counts.last here.0 refl here.1)

  by_wants : (wants : Bool) → q.wants_answer ≡ wants → IsRepeatCounted wants old.due.items new.due.items → IsAsking grounds events (place + 1) new
  by_wants false is_so counts = unwanted is_so (counts.none refl)
  by_wants true is_so counts = wanted_counted is_so old.due.items refl counts

  pub repeat_sent : IsRepeatCounted q.wants_answer old.due.items new.due.items → IsAsking grounds events (place + 1) new
  repeat_sent counts = by_wants q.wants_answer refl counts

-- ---- a request that is carried out

-- one element more is expected
pub expected_more : (modelled : Bool) (requests : List Wanted) (w : Wanted) (old new : List Expected) (e : Expected) → new ≡ old ++ e ∷ [] → IsExpected modelled w e
    → AreExpected modelled requests old → AreExpected modelled (requests ++ w ∷ []) new
expected_more modelled requests w old new e more one is = record {
  count = ap (λ (es : List Expected). length es) more ∙ omega (arith, length-append old (e ∷ []), length-append requests (w ∷ []), is.count);
  each = λ k v x at here.
      elim (get_pushed old e k x (ap (λ (es : List Expected). slice_get es k) (sym more) ∙ here)) [
        | inl there ↦
            elim (get_pushed requests w k v at) [
              | inl it ↦ is.each k v x it there
              | inr it ↦ absurd (omega (arith, it.0, is.count, slice_get_within old k x there))
            ]
        | inr there ↦
            elim (get_pushed requests w k v at) [
              | inl it ↦ absurd (omega (arith, there.0, is.count, slice_get_within requests k v it))
              | inr it ↦ subst (λ (y : Expected). IsExpected modelled v y) there.1 (subst (λ (u : Wanted). IsExpected modelled u e) it.1 one)
            ]
      ];
}

-- by whether a request wants an answer
pub expected_by : (modelled wants : Bool) (requests : List Wanted) (w : Wanted) (old new : List Expected) → IsExpectedAdded modelled wants w old new
    → AreExpected modelled requests old → AreExpected modelled (cond wants (requests ++ w ∷ []) requests) new
expected_by modelled true requests w old new added is = expected_more modelled requests w old new added.0 added.1 added.2 is
expected_by modelled false requests w old new same is = subst (λ (es : List Expected). AreExpected modelled requests es) (sym same) is

one_longer : {X : Type 0} (b : Bool) (xs : List X) (x : X) → length xs ≤ length (cond b (xs ++ x ∷ []) xs)
one_longer true xs x = omega (arith, length-append xs (x ∷ []))
one_longer false xs x = omega arith

module _ (grounds : Ground) (events : List Event) (place : ℕ) (message : List ℕ) (q : Request) (first new : Asking) (kept : Option (List ℕ))
    (at : slice_get events place ≡ Some (Sent message)) (read : request_of message ≡ Ok q) (once : is_repeat grounds.repeats (take place events) message ≡ false)
    (last : kept ≡ Some message) (done : IsCarriedOut place q (record first { last = kept }) new) (is : IsAsking grounds events place first) where
  abbrev qs : List Request
  qs = asked grounds.repeats (take place events)

  abbrev all : List Request
  all = grounds.start ++ qs

  abbrev state : DeskState
  state = desk_from start grounds.start

  abbrev ws : List Wanted
  ws = wanted grounds (take place events)

  abbrev one : Wanted
  one = record { request = q; reply = (answered first.desk q).0 }

  one_asked : asked_by grounds.repeats (take place events) (Sent message) ≡ q ∷ []
  one_asked =
      ap (λ b. cond b [] (cons_option (request_in message) [])) once ∙ ap (λ (o : Option Request). cons_option o []) (ap result_ok read)

  not_repeated : repeated_by grounds (take place events) (Sent message) ≡ []
  not_repeated = ap (λ b. cond (b && wants_answer (request_in message)) (length ws ∷ []) []) once

  more : asked grounds.repeats (take (place + 1) events) ≡ qs ++ q ∷ []
  more = asked_one grounds events place (Sent message) at q one_asked

  counts : (k : ℕ) → repeats_of grounds (take (place + 1) events) k ≡ repeats_of grounds (take place events) k
  counts = repeats_same grounds events place (Sent message) at not_repeated

  behind : all ++ q ∷ [] ≡ grounds.start ++ asked grounds.repeats (take (place + 1) events)
  behind = append_assoc grounds.start qs (q ∷ []) ∙ ap (λ (rs : List Request). grounds.start ++ rs) (sym more)

  entities : first.desk.mib.entities ≡ after all
  entities = ap (λ (s : DeskState). s.mib.entities) is.desk ∙ entities_from start all

  requests : new.requests.items ≡ requests_of grounds (take (place + 1) events)
  requests =
      done.requests ∙ ap (λ (rs : List Request). cond (is_accepted first.desk.mib.entities q) (rs ++ q ∷ []) rs) is.requests
      ∙ ap (λ (e : Entities). cond (is_accepted e q) (accepted all ++ q ∷ []) (accepted all)) entities
      ∙ sym (accepted_more all q) ∙ ap (λ (rs : List Request). accepted rs) behind

  wants : wanted grounds (take (place + 1) events) ≡ cond q.wants_answer (ws ++ one ∷ []) ws
  wants =
      ap (wanted_from state) more ∙ wanted_more state qs q
      ∙ ap (λ (s : DeskState). cond q.wants_answer (ws ++ wanted_at s q ∷ []) ws) (sym (is.desk ∙ desk_append start grounds.start qs))

  due_above : (k : ℕ) (due : Due) (later : List Wanted) → wanted grounds (take (place + 1) events) ≡ ws ++ later → IsDue grounds events place k due
      → IsDue grounds events (place + 1) k due
  due_above k due later longer due_is = record {
    answers = due_is.answers;
    at = ap (λ (vs : List Wanted). slice_get vs k) longer ∙ get_more ws later k due_is.answers due_is.at;
    message = due_is.message;
    sent = due_is.sent;
    request = due_is.request;
    within = omega (arith, due_is.within);
    before = due_is.before;
    accepted =
        due_is.accepted ∙ ap (λ (rs : List Request). length (accepted (grounds.start ++ rs)))
        (sym (ap (up_to (k + 1)) more ∙ up_to_above state qs (q ∷ []) (k + 1) (omega (arith, slice_get_within ws k due_is.answers due_is.at))));
    repeats = due_is.repeats ∙ sym (counts k);
    few = omega (arith, due_is.few);
  }

  due_last : wanted grounds (take (place + 1) events) ≡ ws ++ one ∷ []
      → IsDue grounds events (place + 1) (length ws) (record { sent = place; accepted = length new.requests.items; repeats = 0 })
  due_last longer = record {
    answers = one;
    at = ap (λ (vs : List Wanted). slice_get vs (length ws)) longer ∙ get_last ws one;
    message = message;
    sent = at;
    request = read;
    within = omega arith;
    before = refl;
    accepted =
        ap (λ (rs : List Request). length rs) requests
        ∙ ap (λ (rs : List Request). length (accepted (grounds.start ++ rs)))
        (more ∙ sym (ap (up_to (length ws + 1)) more ∙ up_to_last state qs q (length ws + 1) (omega arith)));
    repeats = sym (counts (length ws) ∙ is.unsent (length ws) (omega arith));
    few = omega arith;
  }

  abbrev IsEachDue : Type 0
  IsEachDue = (length new.due.items ≡ length (wanted grounds (take (place + 1) events)))
      × ((k : ℕ) (due : Due) → slice_get new.due.items k ≡ Some due → IsDue grounds events (place + 1) k due)

  due_by : (b : Bool) → wanted grounds (take (place + 1) events) ≡ cond b (ws ++ one ∷ []) ws
      → new.due.items ≡ cond b (first.due.items ++ record { sent = place; accepted = length new.requests.items; repeats = 0 } ∷ []) first.due.items → IsEachDue
  due_by true longer pushed =
      let due : Due = record { sent = place; accepted = length new.requests.items; repeats = 0 } in (
        ap (λ (ds : List Due). length ds) pushed
            ∙ omega (arith, length-append first.due.items (due ∷ []), is.count, ap (λ (vs : List Wanted). length vs) longer, length-append ws (one ∷ [])),
        λ k d here.
            elim (get_pushed first.due.items due k d (ap (λ (ds : List Due). slice_get ds k) (sym pushed) ∙ here)) [
              | inl there ↦ due_above k d (one ∷ []) longer (is.each k d there)
              | inr there ↦ subst (λ (x : Due). IsDue grounds events (place + 1) k x) there.1
                  (subst (λ (n : ℕ). IsDue grounds events (place + 1) n due) (sym (there.0 ∙ is.count)) (due_last longer))
            ],
      )
  due_by false same pushed = (
    ap (λ (ds : List Due). length ds) pushed ∙ is.count ∙ ap (λ (vs : List Wanted). length vs) (sym same),
    λ k d here. due_above k d [] (same ∙ sym (append-nil ws)) (is.each k d (ap (λ (ds : List Due). slice_get ds k) (sym pushed) ∙ here)),
  )

  pub request_sent : IsAsking grounds events (place + 1) new
  request_sent =
      let due = due_by q.wants_answer wants done.due in
      record {
        modelled = done.modelled ∙ is.modelled;
        repeats = done.repeats ∙ is.repeats;
        desk = done.desk ∙ ap (λ (s : DeskState). (answered s q).1) is.desk ∙ sym (desk_more start all q) ∙ ap (λ (rs : List Request). desk_from start rs) behind;
        requests = requests;
        last = done.last ∙ last ∙ sym (last_is grounds events place (Sent message) at);
        expected =
            subst (λ (vs : List Wanted). AreExpected grounds.modelled vs new.expected.items) (sym wants)
            (expected_by grounds.modelled q.wants_answer ws one first.expected.items new.expected.items
            (subst (λ (b : Bool). IsExpectedAdded b q.wants_answer one first.expected.items new.expected.items) is.modelled done.expected) is.expected);
        count = due.0;
        each = due.1;
        unsent = λ k above. counts k ∙ is.unsent k
            (omega (arith, above, one_longer q.wants_answer ws one, ap (λ (vs : List Wanted). length vs) wants));
      }
