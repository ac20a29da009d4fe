-- What is an observation without repeats, and has no message with the bytes of the one before it, is one with repeats.
use Rattle.std.proofs.Common.{◌≡◌, ◌<◌, ◌+◌, ℕ, suc, Bool, true, false, cond, List, [], ◌∷◌, ◌++◌, length, take, Some, slice_get, refl, sym, ap, ◌∙◌, arith, append_assoc, append-nil}
use Rattle.std.specs.Prelude.{◌==◌, count_by}
use Rattle.std.specs.List.{cons_option}
use Rattle.std.proofs.lemmas.List.{take-append-le}
use Rattle.std.proofs.lemmas.Option.{slice_get_within}
use Rattle.omci_msg.specs.declared.request.Request.{Request}
use Rattle.bench_history.specs.declared.event.Event.{Event}
use Rattle.bench_history.specs.declared.event.Event.TheVariants.{Sent}
use Rattle.bench_answers.specs.Ground.{Ground, collected}
use Rattle.bench_answers.specs.Asked.{asked, asked_by, is_repeat, repeated_by, repeats_of, request_in}
use Rattle.bench_answers.specs.declared.standing.Standing.{Standing}
use Rattle.bench_answers.specs.declared.standing.Standing.TheVariants.{Answers, Repeats, OfStart, Absent}
use Rattle.bench_judge.specs.declared.settings.JudgeSettings.{JudgeSettings}
use Rattle.bench_law.specs.Steps.{Step, shown, carried}
use Rattle.bench_law.specs.Observation.{IsObservation, IsReply, StandsFor, seen_in}
use Rattle.bench_law.specs.Law.{HasNoRepeat}
use Rattle.bench_law.proofs.Fronts.{IsFront, before_end, front_taken}
use Rattle.bench_law.proofs.Courses.{shown_front}

-- ---- messages

-- none of them, behind others, has the bytes of the one before it
abbrev AreUnrepeated : List Event → List Event → Type 0
AreUnrepeated before xs = (i : ℕ) (message : List ℕ) → slice_get xs i ≡ Some (Sent message) → is_repeat true (before ++ take i xs) message ≡ false

unrepeated_on : (before xs : List Event) (first : Event) → AreUnrepeated before (first ∷ xs) → AreUnrepeated (before ++ first ∷ []) xs
unrepeated_on before xs first none i message at =
    ap (λ (l : List Event). is_repeat true l message) (append_assoc before (first ∷ []) (take i xs)) ∙ none (suc i) message at

asks_same : (before xs : List Event) → AreUnrepeated before xs → collected (asked_by true) before xs ≡ collected (asked_by false) before xs
asks_same before [] none = refl
asks_same before (Sent message ∷ xs) none =
    let here : is_repeat true before message ≡ false =
    ap (λ (l : List Event). is_repeat true l message) (sym (append-nil before)) ∙ none 0 message refl in
    ap (λ (b : Bool). cond b [] (cons_option (request_in message) []) ++ collected (asked_by true) (before ++ Sent message ∷ []) xs) here
    ∙ ap (λ (qs : List Request). cons_option (request_in message) [] ++ qs)
    (asks_same (before ++ Sent message ∷ []) xs (unrepeated_on before xs (Sent message) none))
asks_same before (x ∷ xs) none = asks_same (before ++ x ∷ []) xs (unrepeated_on before xs x none)

-- in a front too
front_asks : (xs ys : List Event) → HasNoRepeat ys → IsFront xs ys → asked true xs ≡ asked false xs
front_asks xs ys none f =
    asks_same [] xs
    (λ i message at.
    let within : i < length xs = slice_get_within xs i (Sent message) at in
    let there : slice_get ys i ≡ Some (Sent message) =
    ap (λ (l : List Event). slice_get l i) f.is ∙ before_end xs f.rest i within ∙ at in
    let above : take i xs ≡ take i ys = sym (take-append-le i xs f.rest (omega (arith, within))) ∙ ap (take i) (sym f.is) in
    ap (λ (l : List Event). is_repeat true l message) above ∙ none i message there)

-- ---- repeats

module _ (modelled : Bool) (start : List Request) where
  abbrev without : Ground
  without = record { modelled = modelled; repeats = false; start = start }

  abbrev with : Ground
  with = record { modelled = modelled; repeats = true; start = start }

  repeats_nothing : (before : List Event) (event : Event) → repeated_by without before event ≡ []
  repeats_nothing before (Sent message) = refl
  repeats_nothing before event = refl

  none_behind : (before xs : List Event) → collected (repeated_by without) before xs ≡ []
  none_behind before [] = refl
  none_behind before (x ∷ xs) =
      ap (λ (ns : List ℕ). ns ++ collected (repeated_by without) (before ++ x ∷ []) xs) (repeats_nothing before x) ∙ none_behind (before ++ x ∷ []) xs

  no_repeats : (lines : List Event) (k : ℕ) → repeats_of without lines k ≡ 0
  no_repeats lines k = ap (λ (ns : List ℕ). count_by (λ n. n == k + 1) ns) (none_behind [] lines)

  stands_so : (before : List Step) (seen : List Standing) (bytes : List ℕ) (standing : Standing) → StandsFor without before seen bytes standing
      → StandsFor with before seen bytes standing
  stands_so before seen bytes (Answers k) is = record { is = is.is; number = is.number; next = is.next }
  stands_so before seen bytes (Repeats k) is = absurd (omega (arith, is.repeated, no_repeats (shown before) k))
  stands_so before seen bytes (OfStart j) is =
      record { is = is.is; number = is.number; of_start = is.of_start; behind = is.behind; unsent = is.unsent }
  stands_so before seen bytes Absent is = is

  reply_so : (before : List Step) (means : List Standing) (bytes : List ℕ) → IsReply without means before bytes → IsReply with means before bytes
  reply_so before means bytes is =
      record { standing = is.standing; listed = is.listed; stands = stands_so before (seen_in means before) bytes is.standing is.stands }

-- ---- observations

pub with_repeats : (lanes : ℕ) (start : List Request) (steps : List Step) (needed : JudgeSettings) → HasNoRepeat (shown steps)
    → IsObservation lanes (record { settings = record needed { repeats = false }; start = start }) steps
    → IsObservation lanes (record { settings = record needed { repeats = true }; start = start }) steps
with_repeats lanes start steps needed none o =
    record {
      run = o.run;
      carried_out = λ place q at.
          ap (λ (qs : List Request). slice_get (start ++ qs) (length (carried (take place steps))))
          (front_asks (shown (take place steps)) (shown steps) none (shown_front (front_taken place steps))) ∙ o.carried_out place q at;
      means = o.means;
      replied = λ place bytes at. reply_so needed.modelled start (take place steps) o.means bytes (o.replied place bytes at);
      unexcused = o.unexcused;
      waited = o.waited;
      begun = o.begun;
      strays = o.strays;
      doubted = o.doubted;
      lane_of = o.lane_of;
      place_of = o.place_of;
      forwarded = o.forwarded;
      in_order = o.in_order;
    }
