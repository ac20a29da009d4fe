-- Fronts of events: their requests and versions are fronts too.
use Rattle.std.proofs.Common.{◌≡◌, ◌≤◌, ℕ, zero, suc, Bool, true, false, cond, List, [], ◌∷◌, ◌++◌, length, drop, take, refl, ap, sym, ◌∙◌, arith, append-nil, length-append}
use Rattle.std.proofs.Math.Seq.{append_snoc}
use Rattle.std.proofs.lemmas.List.{append_assoc, take-append-drop, take-append-le, take-take}
use Rattle.omci_msg.specs.declared.request.Request.{Request}
use Rattle.mib_state.specs.Entities.{Entities, nothing}
use Rattle.mib_state.specs.Step.{left}
use Rattle.mib_state.specs.After.{accepted, accepted_from, after, after_from, is_accepted}
use Rattle.bench_history.specs.declared.event.Event.{Event}
use Rattle.bench_answers.specs.Ground.{Ground, collected}
use Rattle.bench_answers.specs.Asked.{asked, asked_by, base, requests_of, version}
use Rattle.bench_answers.specs.Windows.{least_behind, most_behind, up_to, waited}
use Rattle.bench_answers.proofs.Requests.{cond_front}

collected_append : {A : Type 0} (adds : List Event → Event → List A) (before xs ys : List Event)
    → collected adds before (xs ++ ys) ≡ collected adds before xs ++ collected adds (before ++ xs) ys
collected_append adds before [] ys = ap (λ all. collected adds all ys) (sym (append-nil before))
collected_append adds before (x ∷ xs) ys =
    ap (λ more. adds before x ++ more) (collected_append adds (before ++ x ∷ []) xs ys)
    ∙ ap (λ all. adds before x ++ (collected adds (before ++ x ∷ []) xs ++ collected adds all ys)) (append_snoc before x xs)
    ∙ sym (append_assoc (adds before x) (collected adds (before ++ x ∷ []) xs) (collected adds (before ++ x ∷ xs) ys))

accepted_append : (e : Entities) (qs rs : List Request) → accepted_from e (qs ++ rs) ≡ accepted_from e qs ++ accepted_from (after_from e qs) rs
accepted_append e [] rs = refl
accepted_append e (q ∷ qs) rs = cond_front (is_accepted e q) q _ _ _ (accepted_append (left q.action e q) qs rs)

-- what more events ask is behind what those before them asked
pub asked_front : (repeats : Bool) (k : ℕ) (events : List Event)
    → asked repeats events ≡ asked repeats (take k events) ++ collected (asked_by repeats) (take k events) (drop k events)
asked_front repeats k events =
    ap (λ (es : List Event). asked repeats es) (sym (take-append-drop k events)) ∙ collected_append (asked_by repeats) [] (take k events) (drop k events)

-- the accepted requests of a front, and those behind it
pub requests_front : (grounds : Ground) (k : ℕ) (events : List Event) → (more : List Request) × (requests_of grounds events ≡ requests_of grounds (take k events) ++ more)
requests_front grounds k events =
    let front : List Request = asked grounds.repeats (take k events) in
    let behind : List Request = collected (asked_by grounds.repeats) (take k events) (drop k events) in (
      accepted_from (after (grounds.start ++ front)) behind,
      ap (λ (qs : List Request). accepted (grounds.start ++ qs)) (asked_front grounds.repeats k events)
          ∙ ap (λ (qs : List Request). accepted qs) (sym (append_assoc grounds.start front behind)) ∙ accepted_append nothing (grounds.start ++ front) behind,
    )

-- a version of a front is one of all events
pub version_front : (grounds : Ground) (k v : ℕ) (events : List Event) → v ≤ most_behind grounds (take k events) → version grounds events v ≡ version grounds (take k events) v
version_front grounds k v events within =
    let front = requests_front grounds k events in
    ap (λ (qs : List Request). after (take v qs)) front.1 ∙ ap after (take-append-le v (requests_of grounds (take k events)) front.0 within)

-- a longer front has no fewer accepted requests
pub most_grows : (grounds : Ground) (events : List Event) (i j : ℕ) → i ≤ j → most_behind grounds (take i events) ≤ most_behind grounds (take j events)
most_grows grounds events i j within =
    let front = requests_front grounds i (take j events) in
    let same : most_behind grounds (take i (take j events)) ≡ most_behind grounds (take i events) = ap (λ (es : List Event). most_behind grounds es) (take-take i j events within) in
    omega (arith, same, ap (λ (qs : List Request). length qs) front.1, length-append (requests_of grounds (take i (take j events))) front.0)

-- requests up to one are a front of them
up_to_front : (n : ℕ) (qs : List Request) → (more : List Request) × (qs ≡ up_to n qs ++ more)
up_to_front zero qs = (qs, refl)
up_to_front (suc n) [] = ([], refl)
up_to_front (suc n) (q ∷ qs) =
    elim q.wants_answer as (λ b. (more : List Request) × ((q ∷ qs) ≡ (q ∷ cond b (up_to n qs) (up_to (suc n) qs)) ++ more)) [
      | true ↦ let rest = up_to_front n qs in (rest.0, ap (λ rs. q ∷ rs) rest.1)
      | false ↦ let rest = up_to_front (suc n) qs in (rest.0, ap (λ rs. q ∷ rs) rest.1)
    ]

-- the least version of a frame is not over the greatest
pub least_within : (grounds : Ground) (events : List Event) → least_behind grounds events ≤ most_behind grounds events
least_within grounds events =
    let qs : List Request = asked grounds.repeats events in
    let front : List Request = up_to (waited grounds events) qs in
    let parts = up_to_front (waited grounds events) qs in
    let split : requests_of grounds events ≡ accepted (grounds.start ++ front) ++ accepted_from (after (grounds.start ++ front)) parts.0 =
    ap (λ (rs : List Request). accepted (grounds.start ++ rs)) parts.1
    ∙ ap (λ (rs : List Request). accepted rs) (sym (append_assoc grounds.start front parts.0)) ∙ accepted_append nothing (grounds.start ++ front) parts.0 in
    omega (
      arith,
      ap (λ (rs : List Request). length rs) split,
      length-append (accepted (grounds.start ++ front)) (accepted_from (after (grounds.start ++ front)) parts.0),
    )

-- nor under what was accepted before the first event
pub base_within : (grounds : Ground) (events : List Event) → base grounds ≤ least_behind grounds events
base_within grounds events =
    let front : List Request = up_to (waited grounds events) (asked grounds.repeats events) in
    omega (
      arith,
      ap (λ (rs : List Request). length rs) (accepted_append nothing grounds.start front),
      length-append (accepted grounds.start) (accepted_from (after grounds.start) front),
    )
