-- What is kept of events, one event on.
use Rattle.std.proofs.Common.{◌≡◌, ◌≤◌, ◌+◌, ℕ, true, false, cond, List, [], ◌∷◌, ◌++◌, length, max, take, Some, refl, ap, sym, subst, ◌∙◌, arith}
use Rattle.std.specs.List.{slice_get}
use Rattle.omci_msg.specs.declared.request.Request.{Request}
use Rattle.mib_upload.specs.Upload.{DeskState, answered, start}
use Rattle.bench_history.specs.declared.event.Event.{Event}
use Rattle.bench_answers.specs.Ground.{Ground}
use Rattle.bench_answers.specs.Asked.{asked, asked_by, desk_from, last_sent, last_with, repeated_by, wanted, wanted_from}
use Rattle.bench_answers.specs.Kept.{AreReplies, IsAnswersOf, IsAsking}
use Rattle.bench_answers.specs.Standing.{reach, reached, standings, stands}
use Rattle.bench_answers.specs.Windows.{waits_for}
use Rattle.bench_answers.specs.declared.answers.Answers as kept
use Rattle.bench_answers.specs.declared.asking.Asking.{Asking}
use Rattle.bench_answers.specs.declared.replies.Replies.{Replies}
use Rattle.bench_answers.specs.declared.standing.Standing.{Standing}
use Rattle.bench_answers.proofs.Collected.{collected_with}
use Rattle.bench_answers.proofs.Reaching.{reached_more}
use Rattle.bench_answers.proofs.Requests.{wanted_at}
use Rattle.bench_answers.proofs.Sending.{asking_quiet}
use Rattle.bench_answers.proofs.Steps.{standings_one, standings_same, waited_one, waited_same}

-- ---- more requests

wanted_grows : (s : DeskState) (qs more : List Request) → length (wanted_from s qs) ≤ length (wanted_from s (qs ++ more))
wanted_grows s [] more = omega arith
wanted_grows s (q ∷ qs) more =
    let grows = wanted_grows (answered s q).1 qs more in
    elim q.wants_answer as (λ b. length (cond b (wanted_at s q ∷ wanted_from (answered s q).1 qs) (wanted_from (answered s q).1 qs))
    ≤ length (cond b (wanted_at s q ∷ wanted_from (answered s q).1 (qs ++ more)) (wanted_from (answered s q).1 (qs ++ more)))) [
      | true ↦ omega (arith, grows)
      | false ↦ grows
    ]

-- ---- an event of one kind

module _ (grounds : Ground) (events : List Event) (place : ℕ) (event : Event) (at : slice_get events place ≡ Some event) (old : kept.Answers)
    (is : IsAnswersOf grounds events place old) where
  abbrev before : List Event
  before = take place events

  abbrev seen : List Standing
  seen = standings grounds before

  -- no fewer requests want an answer
  grows : length (wanted grounds before) ≤ length (wanted grounds (take (place + 1) events))
  grows =
      let more = collected_with (asked_by grounds.repeats) events place event at in
      omega (
        arith,
        wanted_grows (desk_from start grounds.start) (asked grounds.repeats before) (asked_by grounds.repeats before event),
        ap (λ (qs : List Request). length (wanted_from (desk_from start grounds.start) qs)) more,
      )

  -- a message
  pub sent_on : (asking : Asking) → IsAsking grounds events (place + 1) asking → stands grounds before seen event ≡ [] → waits_for grounds before event ≡ []
      → IsAnswersOf grounds events (place + 1) (record old { asking = asking })
  sent_on asking asks no_reply no_wait =
      let same = standings_same grounds events place event at no_reply in
      let waits = waited_same grounds events place event at no_wait in
      record {
        asking = asks;
        start = is.start;
        base = is.base;
        replies = subst (λ (ss : List Standing). AreReplies ss old.replies) (sym same) is.replies;
        answered = omega (arith, is.answered, grows, ap (λ (ss : List Standing). reached ss) same);
        awaited = is.awaited ∙ sym waits;
        seen = omega (arith, is.seen, waits, ap (λ (ss : List Standing). reached ss) same);
      }

  module _ (none : asked_by grounds.repeats before event ≡ []) (no_repeat : repeated_by grounds before event ≡ [])
      (no_message : last_with (last_sent before) event ≡ last_sent before) where
    asks : IsAsking grounds events (place + 1) old.asking
    asks =
        asking_quiet grounds events place event old.asking old.asking at none no_repeat refl refl refl refl refl refl (is.asking.last ∙ sym no_message) is.asking

    -- a reply
    pub replied_on : (s : Standing) (replies : Replies) → stands grounds before seen event ≡ s ∷ [] → waits_for grounds before event ≡ []
        → AreReplies (seen ++ s ∷ []) replies → reach s ≤ length (wanted grounds before)
        → IsAnswersOf grounds events (place + 1) (record old { replies = replies })
    replied_on s replies one no_wait are within =
        let more = standings_one grounds events place event at s one in
        let waits = waited_same grounds events place event at no_wait in
        record {
          asking = asks;
          start = is.start;
          base = is.base;
          replies = subst (λ (ss : List Standing). AreReplies ss replies) (sym more) are;
          answered = omega (arith, is.answered, within, grows, ap (λ (ss : List Standing). reached ss) more, reached_more seen s);
          awaited = is.awaited ∙ sym waits;
          seen = omega (arith, is.seen, waits, ap (λ (ss : List Standing). reached ss) more, reached_more seen s);
        }

    -- a wait
    pub waited_on : (n now : ℕ) → stands grounds before seen event ≡ [] → waits_for grounds before event ≡ n ∷ [] → now ≡ max old.waited n → n ≤ reached seen
        → IsAnswersOf grounds events (place + 1) (record old { waited = now })
    waited_on n now no_reply one is_now within =
        let same = standings_same grounds events place event at no_reply in
        let waits = waited_one grounds events place event at n one in
        record {
          asking = asks;
          start = is.start;
          base = is.base;
          replies = subst (λ (ss : List Standing). AreReplies ss old.replies) (sym same) is.replies;
          answered = omega (arith, is.answered, grows, ap (λ (ss : List Standing). reached ss) same);
          awaited = omega (arith, is_now, is.awaited, waits);
          seen = omega (arith, is.seen, waits, within, ap (λ (ss : List Standing). reached ss) same);
        }

    -- an event that is none of these leaves what is kept
    pub idle_on : stands grounds before seen event ≡ [] → waits_for grounds before event ≡ [] → IsAnswersOf grounds events (place + 1) old
    idle_on no_reply no_wait = sent_on old.asking asks no_reply no_wait
