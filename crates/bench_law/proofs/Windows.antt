-- The window of a frame that was forwarded holds the version that its lane holds.
use Rattle.std.proofs.Common.{◌≡◌, ◌<◌, ◌≤◌, ◌⊎◌, ◌+◌, ℕ, suc, Bool, max, List, [], ◌∷◌, ◌++◌, length, take, Option, Some, None, slice_get, inl, inr, refl, sym, ap, subst, ◌∙◌, arith, append_assoc, append-nil, length-append, take-take}
use Rattle.std.proofs.lemmas.Bool.{cases_lt}
use Rattle.std.proofs.lemmas.List.{take-append-le}
use Rattle.omci_msg.specs.declared.request.Request.{Request}
use Rattle.mib_state.specs.Entities.{nothing}
use Rattle.mib_state.specs.After.{accepted, accepted_from, after}
use Rattle.plan_publish.specs.World.{Event as MachineEvent, Forward}
use Rattle.plan_publish.specs.Interleavings.{accepted_in, entered_with}
use Rattle.plan_publish.proofs.Parts.{accepted-append}
use Rattle.bench_history.specs.History.{replies_in}
use Rattle.bench_history.specs.declared.event.Event.{Event}
use Rattle.bench_history.specs.declared.event.Event.TheVariants.{Entered, Waited}
use Rattle.bench_answers.specs.Ground.{Ground, collected}
use Rattle.bench_answers.specs.Asked.{asked, base, version}
use Rattle.bench_answers.specs.Standing.{greatest, reached_by, standings}
use Rattle.bench_answers.specs.Windows.{least_behind, most_behind, up_to, waited, waits_for}
use Rattle.bench_answers.specs.declared.standing.Standing.{Standing}
use Rattle.bench_judge.specs.Explained.{EndedFrame}
use Rattle.bench_law.specs.Steps.{Step, happened, shown, carried, wanting}
use Rattle.bench_law.specs.Observation.{HasLearnt, IsForwarded, awaits, seen_in}
use Rattle.bench_law.proofs.Fronts.{IsFront, front_of_front, front_parted, front_shorter, front_taken, front_within, fronts_taken, in_front, length_before}
use Rattle.bench_law.proofs.Courses.{LineAt, comes_first, happened_front, line_at, possible_at, requests_front, run_at, run_of, shown_front}
use Rattle.bench_law.proofs.Requests.{accepted_front, few_up_to, wanting_append}
use Rattle.bench_law.proofs.Carried.{carried_front, due, due_front}
use Rattle.bench_law.proofs.Learnt.{entered_few, learnt_at_least}
use Rattle.bench_law.proofs.Taken.{AreTakenFor}
use Rattle.bench_law.proofs.Observed.{IsCourse}
use Rattle.bench_law.proofs.Replies.{all_taken}

-- ---- the line that waits for the most

greatest_append : (xs ys : List ℕ) → greatest (xs ++ ys) ≡ max (greatest xs) (greatest ys)
greatest_append [] ys = omega arith
greatest_append (x ∷ xs) ys = omega (arith, greatest_append xs ys)

-- for how many requests an event waits; 0 is none
abbrev waits : Ground → List Event → Event → ℕ
waits grounds before event = greatest (waits_for grounds before event)

-- the most that events behind others wait for
abbrev waited_behind : Ground → List Event → List Event → ℕ
waited_behind grounds before lines = greatest (collected (waits_for grounds) before lines)

record WaitsMost (grounds : Ground) (before lines : List Event) : Type 0 where
  number : ℕ
  line : Event
  at : slice_get lines number ≡ Some line
  waits_so : waits grounds (before ++ take number lines) line ≡ waited_behind grounds before lines

-- there is one, or nothing is waited for
most_waited : (grounds : Ground) (before lines : List Event) → (waited_behind grounds before lines ≡ 0) ⊎ WaitsMost grounds before lines
most_waited grounds before [] = inl refl
most_waited grounds before (first ∷ lines) =
    let a : ℕ = waits grounds before first in
    let b : ℕ = waited_behind grounds (before ++ first ∷ []) lines in
    let all : waited_behind grounds before (first ∷ lines) ≡ max a b =
    greatest_append (waits_for grounds before first) (collected (waits_for grounds) (before ++ first ∷ []) lines) in
    let later : (b ≡ 0) ⊎ WaitsMost grounds (before ++ first ∷ []) lines = most_waited grounds (before ++ first ∷ []) lines in
    elim (cases_lt a b) [
      | inl less ↦
          elim later [
            | inl none ↦ absurd (omega (arith, less, none))
            | inr w ↦
                let most : b ≡ waited_behind grounds before (first ∷ lines) = omega (arith, less, all) in
                inr
                (record {
                  number = suc w.number;
                  line = w.line;
                  at = w.at;
                  waits_so =
                      ap (λ (l : List Event). waits grounds l w.line) (sym (append_assoc before (first ∷ []) (take w.number lines))) ∙ w.waits_so ∙ most;
                })
          ]
      | inr not_less ↦
          let most : a ≡ waited_behind grounds before (first ∷ lines) = omega (arith, not_less, all) in
          inr
          (record { number = 0; line = first; at = refl; waits_so = ap (λ (l : List Event). waits grounds l first) (append-nil before) ∙ most })
    ]

-- it waits for what the replies before it answer, by what they stand for
by_meaning : (taken meant : List Standing) → AreTakenFor taken meant → (replies : Option ℕ) → reached_by replies taken ≡ reached_by replies meant
by_meaning taken meant so None = so.reaches
by_meaning taken meant so (Some n) = so.fronts n

awaits_so : (grounds : Ground) (before : List Event) (meant : List Standing) (line : Event) → AreTakenFor (standings grounds before) meant
    → awaits meant line ≡ waits grounds before line
awaits_so grounds before meant (Waited replies) so = omega (arith, by_meaning (standings grounds before) meant so replies)
awaits_so grounds before meant line so = refl

-- ---- the version of a frame

module _ (lanes : ℕ) (grounds : Ground) (means : List Standing) (padded : Bool) (steps : List Step) (c : IsCourse lanes grounds means steps) where
  due_by : (k : ℕ) → IsFront (carried (take k steps)) (due grounds (take k steps))
  due_by k = carried_front grounds steps c.carried_out k

  module _ (f : EndedFrame) (lane place : ℕ) (forwarded : IsForwarded padded steps f lane place) where
    -- the events of the machine before the frame is forwarded
    abbrev past : List MachineEvent
    past = happened (take place steps)

    -- how many accepted requests are in force for it
    abbrev held_version : ℕ
    held_version = entered_with lane past

    -- a lane of the machine forwards it
    is_lane : lane < lanes
    is_lane =
        let at = run_at lanes steps place (Forward lane f.port forwarded.bytes) forwarded.forwards c.run in
        (possible_at lanes past at.0 (Forward lane f.port forwarded.bytes) at.1).0

    -- what is accepted of the script and up to so many requests of the lines, where so many of both were carried out
    few_due : (count : ℕ) (lines : List Event) (done : List Request) → IsFront done (grounds.start ++ asked grounds.repeats lines)
        → length grounds.start ≤ length done → wanting grounds.start + count ≤ wanting done
        → length (accepted (grounds.start ++ up_to count (asked grounds.repeats lines))) ≤ length (accepted done)
    few_due count lines done front long many =
        let part = front_parted grounds.start (asked grounds.repeats lines) done front long in
        let more : List Request = part.0 in
        let rest : List Request = part.2.rest in
        let enough : count ≤ wanting more = omega (arith, many, ap wanting part.1, wanting_append grounds.start more) in
        let few : length (accepted_from (after grounds.start) (up_to count (more ++ rest))) ≤ length (accepted_from (after grounds.start) more) =
        few_up_to (after grounds.start) count more rest enough in
        let upto : List Request = up_to count (more ++ rest) in
        let least : length (accepted (grounds.start ++ up_to count (asked grounds.repeats lines))) ≡ length (accepted (grounds.start ++ upto)) =
        ap (λ (qs : List Request). length (accepted (grounds.start ++ up_to count qs))) part.2.is in
        let all : length (accepted done) ≡ length (accepted (grounds.start ++ more)) = ap (λ (qs : List Request). length (accepted qs)) part.1 in
        omega (
          arith,
          few,
          least,
          all,
          ap (λ (qs : List Request). length qs) (accepted-append nothing grounds.start upto),
          length-append (accepted grounds.start) (accepted_from (after grounds.start) upto),
          ap (λ (qs : List Request). length qs) (accepted-append nothing grounds.start more),
          length-append (accepted grounds.start) (accepted_from (after grounds.start) more),
        )

    -- behind a line, up to that which sent the frame, where its lane has learnt of so much
    learnt_least : (number : ℕ) (line : Event) (here : LineAt steps number line) → slice_get (shown steps) number ≡ Some line → number ≤ f.sent
        → (count : ℕ) → HasLearnt grounds.start (take here.place steps) count lane
        → length (accepted (grounds.start ++ up_to count (asked grounds.repeats (take f.sent (shown steps))))) ≤ held_version
    learnt_least number line here stands within count learnt =
        let above : List Step = take here.place steps in
        let lines : List Event = take f.sent (shown steps) in
        let length_above : length (shown above) ≡ number = ap (λ (l : List Event). length l) here.before ∙ length_before (shown steps) number line stands in
        let first : here.place < place = comes_first here.place place steps (omega (arith, length_above, within, forwarded.sent)) in
        let before_past : IsFront (happened above) past = happened_front (fronts_taken here.place place steps (omega (arith, first))) in
        let run_above = run_of lanes (front_taken here.place steps) c.run in
        let at = run_at lanes steps place (Forward lane f.port forwarded.bytes) forwarded.forwards c.run in
        let held = learnt_at_least lanes above run_above grounds.start count lane learnt past at.0 f.port forwarded.bytes before_past at.1 in
        let done : List Request = carried (take learnt.place above) in
        let shown_above : IsFront (shown above) lines =
        subst (λ (l : List Event). IsFront l lines) (sym here.before) (fronts_taken number f.sent (shown steps) within) in
        let known : IsFront done (grounds.start ++ asked grounds.repeats lines) =
        front_of_front (requests_front (happened_front (front_taken learnt.place above))) (front_of_front (due_by here.place) (due_front grounds shown_above)) in
        omega (arith, held, few_due count lines done known learnt.begun learnt.carried_out)

    -- behind a line that waits
    least_by : (lines : List Event) → lines ≡ take f.sent (shown steps) → (w : WaitsMost grounds [] lines) → 0 < waited grounds lines
        → least_behind grounds lines ≤ held_version
    least_by lines are w some =
        let lines_at : slice_get (take f.sent (shown steps)) w.number ≡ Some w.line = ap (λ (l : List Event). slice_get l w.number) (sym are) ∙ w.at in
        let stands = in_front f.sent w.number (shown steps) w.line lines_at in
        let here = line_at steps w.number w.line stands.1 in
        let above : List Step = take here.place steps in
        let front : take w.number lines ≡ take w.number (shown steps) =
        ap (take w.number) are ∙ take-take w.number f.sent (shown steps) (omega (arith, stands.0)) in
        let so : AreTakenFor (standings grounds (shown above)) (seen_in means above) =
        subst (λ (l : List Event). AreTakenFor (standings grounds l) (take (replies_in l) means)) (sym here.before)
        (all_taken lanes grounds means steps c w.number) in
        let count : awaits (seen_in means above) w.line ≡ waited grounds lines =
        awaits_so grounds (shown above) (seen_in means above) w.line so
        ∙ ap (λ (l : List Event). waits grounds l w.line) (here.before ∙ sym front) ∙ w.waits_so in
        let learnt : HasLearnt grounds.start above (waited grounds lines) lane =
        subst (λ (n : ℕ). HasLearnt grounds.start above n lane) count (c.waited here.place w.line here.at (omega (arith, count, some)) lane is_lane) in
        subst (λ (l : List Event). length (accepted (grounds.start ++ up_to (waited grounds lines) (asked grounds.repeats l))) ≤ held_version) (sym are)
        (learnt_least w.number w.line here stands.1 (omega (arith, stands.0)) (waited grounds lines) learnt)

    module _ (entered : slice_get (shown steps) f.sent ≡ Some (Entered f.port f.extent f.bytes)) where
      -- where nothing is waited for
      none_least : (lines : List Event) → lines ≡ take f.sent (shown steps) → waited grounds lines ≡ 0 → least_behind grounds lines ≤ held_version
      none_least lines are none =
          let least : least_behind grounds lines ≡ base grounds =
          ap (λ (n : ℕ). length (accepted (grounds.start ++ up_to n (asked grounds.repeats lines)))) none
          ∙ ap (λ (qs : List Request). length (accepted qs)) (append-nil grounds.start) in
          elim (cases_lt 0 (base grounds)) [
            | inl some ↦
                let here = line_at steps f.sent (Entered f.port f.extent f.bytes) entered in
                let learnt = c.begun here.place f.port f.extent f.bytes here.at some lane is_lane in
                let held = learnt_least f.sent (Entered f.port f.extent f.bytes) here entered (omega arith) 0 learnt in
                let same : length (accepted (grounds.start ++ up_to 0 (asked grounds.repeats (take f.sent (shown steps))))) ≡ base grounds =
                ap (λ (qs : List Request). length (accepted qs)) (append-nil grounds.start) in
                omega (arith, least, held, same)
            | inr nothing_begun ↦ omega (arith, least, nothing_begun)
          ]

      pub least : least_behind grounds (take f.sent (shown steps)) ≤ held_version
      least =
          let lines : List Event = take f.sent (shown steps) in
          elim (most_waited grounds [] lines) [
            | inl none ↦ none_least lines refl none
            | inr w ↦
                elim (cases_lt 0 (waited grounds lines)) [
                  | inl some ↦ least_by lines refl w some
                  | inr none ↦ none_least lines refl (omega (arith, none))
                ]
          ]

    pub most : held_version ≤ most_behind grounds (take f.ended (shown steps))
    most =
        let lines : IsFront (shown (take place steps)) (take f.ended (shown steps)) =
        front_within f.ended (shown_front (front_taken place steps)) forwarded.ended in
        let more = front_shorter (accepted_front (front_of_front (due_by place) (due_front grounds lines))) in
        omega (arith, more, entered_few lane past)

    -- it is the version of the whole history
    pub is_version : version grounds (shown steps) held_version ≡ after (take held_version (accepted_in past))
    is_version =
        let all = accepted_front (front_of_front (due_by place) (due_front grounds (shown_front (front_taken place steps)))) in
        ap (λ (qs : List Request). after (take held_version qs)) all.is
        ∙ ap after (take-append-le held_version (accepted_in past) all.rest (entered_few lane past))
