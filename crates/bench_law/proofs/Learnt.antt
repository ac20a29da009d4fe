-- What a lane that has learnt of a publish holds.
use Rattle.std.proofs.Common.{◌≡◌, ◌≤◌, ◌==◌, ◌||◌, ℕ, Bool, true, false, if◌then◌else◌, List, [], ◌∷◌, ◌++◌, length, take, Contains, Some, slice_get, inl, inr, refl, sym, ap, subst, ◌∙◌, arith, append_assoc, take-take}
use Rattle.std.specs.List.{list_any}
use Rattle.std.proofs.lemmas.Bool.Decides.{nat_tests}
use Rattle.std.proofs.lemmas.Grind.{flat_map-append}
use Rattle.std.proofs.lemmas.List.Elements.{Contains-append_left}
use Rattle.std.proofs.lemmas.List.Folds.{list_any-append}
use Rattle.omci_msg.specs.declared.request.Request.{Request}
use Rattle.plan_publish.specs.World.{opening, IsRun, Event as MachineEvent, Publish, Enter, Forward, Gave}
use Rattle.plan_publish.specs.Interleavings.{accepted_in, before_last, entered_with, is_enter, is_publish, published_by, token_to, tokens_to}
use Rattle.plan_publish.proofs.Last.{fewer_before, last_is, prefixes_grow}
use Rattle.plan_publish.proofs.Interleavings.{prefixes_reach_tokens, tokens_count}
use Rattle.bench_law.specs.Steps.{Step, Happens, happened}
use Rattle.bench_law.specs.Observation.{HasEntered, HasLearnt, WasTold}
use Rattle.bench_law.proofs.Fronts.{IsFront, front_has, front_shorter}
use Rattle.bench_law.proofs.Courses.{event_at, requests_front, run_at}
use Rattle.bench_law.proofs.Requests.{accepted_front}

-- ---- the events before the last of a kind

or_true : (b : Bool) → (b || true) ≡ true
or_true true = refl
or_true false = refl

any_has : (p : MachineEvent → Bool) (xs ys : List MachineEvent) (event : MachineEvent) → p event ≡ true → list_any p (xs ++ event ∷ ys) ≡ true
any_has p xs ys event is =
    list_any-append p xs (event ∷ ys) ∙ (ap (λ (b : Bool). list_any p xs || (b || list_any p ys)) is ∙ or_true (list_any p xs))

-- they begin with those before each of the kind
before_has : (p : MachineEvent → Bool) (xs ys : List MachineEvent) (event : MachineEvent) → p event ≡ true → IsFront xs (before_last p (xs ++ event ∷ ys))
before_has p [] ys event is = record { rest = before_last p (event ∷ ys); is = refl }
before_has p (x ∷ xs) ys event is =
    let later = before_has p xs ys event is in
    record {
      rest = later.rest;
      is = ap (λ (b : Bool). if b then x ∷ before_last p (xs ++ event ∷ ys) else []) (any_has p xs ys event is) ∙ ap (λ l. x ∷ l) later.is;
    }

-- ---- numbers of accepted requests

-- a publish puts in force what was accepted before it
published_at_least : (xs ys : List MachineEvent) → length (accepted_in xs) ≤ published_by (xs ++ Publish ∷ ys)
published_at_least xs ys = front_shorter (accepted_front (requests_front (before_has is_publish xs ys Publish refl)))

same_lane : (lane : ℕ) → (lane == lane) ≡ true
same_lane lane = grind (arith, nat_tests)

-- a lane that enters holds what was published before
entered_at_least : (lane : ℕ) (xs ys : List MachineEvent) → published_by xs ≤ entered_with lane (xs ++ Enter lane ∷ ys)
entered_at_least lane xs ys =
    let now : entered_with lane (xs ++ Enter lane ∷ []) ≡ published_by xs =
    ap published_by (last_is (is_enter lane) xs (Enter lane) (same_lane lane)) in
    let later : entered_with lane (xs ++ Enter lane ∷ []) ≤ entered_with lane ((xs ++ Enter lane ∷ []) ++ ys) =
    prefixes_grow lane (xs ++ Enter lane ∷ []) ys in
    let same : entered_with lane ((xs ++ Enter lane ∷ []) ++ ys) ≡ entered_with lane (xs ++ Enter lane ∷ ys) =
    ap (entered_with lane) (append_assoc xs (Enter lane ∷ []) ys) in
    omega (arith, now, later, same)

-- a lane holds no more than was accepted
pub entered_few : (lane : ℕ) (events : List MachineEvent) → entered_with lane events ≤ length (accepted_in events)
entered_few lane events =
    omega (arith, fewer_before is_publish (before_last (is_enter lane) events), fewer_before (is_enter lane) events)

-- ---- a lane that has learnt of a publish

module _ (lanes : ℕ) (before : List Step) (run : IsRun lanes opening (happened before)) where
  told_at_least : (place lane : ℕ) → slice_get before place ≡ Some (Happens Publish) → WasTold before place lane
      → (past rest : List MachineEvent) (port : ℕ) (bytes : List ℕ) → IsFront (happened before) past
      → IsRun lanes opening (past ++ Forward lane port bytes ∷ rest)
      → length (accepted_in (happened (take place before))) ≤ entered_with lane past
  told_at_least place lane publishes told past rest port bytes front forwards =
      let at = run_at lanes before place Publish publishes run in
      let count : Gave told.token ≡ Gave (length (accepted_in (happened (take place before)))) =
      sym told.gave ∙ tokens_count lanes (happened (take place before)) at.0 at.1 in
      let token : told.token ≡ length (accepted_in (happened (take place before))) = cc count in
      let all : tokens_to lane past ≡ tokens_to lane (happened before) ++ tokens_to lane front.rest =
      ap (tokens_to lane) front.is ∙ flat_map-append (token_to lane) (happened before) front.rest in
      let heard : Contains (tokens_to lane past) told.token =
      subst (λ (ts : List ℕ). Contains ts told.token) (sym all)
      (Contains-append_left (tokens_to lane (happened before)) (tokens_to lane front.rest) told.token told.told) in
      omega (arith, token, prefixes_reach_tokens lanes past rest lane port bytes told.token forwards heard)

  entered_since : (place lane : ℕ) → slice_get before place ≡ Some (Happens Publish) → HasEntered before place lane
      → length (accepted_in (happened (take place before))) ≤ entered_with lane (happened before)
  entered_since place lane publishes entered =
      let upto : List Step = take entered.place before in
      let enters = event_at before entered.place (Enter lane) entered.enters in
      let publish = event_at upto place Publish (front_has entered.place place before entered.since ∙ publishes) in
      let first : take place upto ≡ take place before = take-take place entered.place before (omega (arith, entered.since)) in
      let some : length (accepted_in (happened (take place upto))) ≤ published_by (happened upto) =
      subst (λ (es : List MachineEvent). length (accepted_in (happened (take place upto))) ≤ published_by es) (sym publish.1)
      (published_at_least (happened (take place upto)) publish.0) in
      let held : published_by (happened upto) ≤ entered_with lane (happened before) =
      subst (λ (es : List MachineEvent). published_by (happened upto) ≤ entered_with lane es) (sym enters.1) (entered_at_least lane (happened upto) enters.0) in
      let same : length (accepted_in (happened (take place upto))) ≡ length (accepted_in (happened (take place before))) =
      ap (λ (l : List Step). length (accepted_in (happened l))) first in
      omega (arith, some, held, same)

  -- where it forwards behind these steps, it holds all that was accepted before the publish
  pub learnt_at_least : (script : List Request) (count lane : ℕ) (learnt : HasLearnt script before count lane) (past rest : List MachineEvent) (port : ℕ) (bytes : List ℕ)
      → IsFront (happened before) past → IsRun lanes opening (past ++ Forward lane port bytes ∷ rest)
      → length (accepted_in (happened (take learnt.place before))) ≤ entered_with lane past
  learnt_at_least script count lane learnt past rest port bytes front forwards =
      elim learnt.learnt [
        | inl told ↦ told_at_least learnt.place lane learnt.publishes told past rest port bytes front forwards
        | inr entered ↦
            let held = entered_since learnt.place lane learnt.publishes entered in
            let grows : entered_with lane (happened before) ≤ entered_with lane (happened before ++ front.rest) = prefixes_grow lane (happened before) front.rest in
            let same : entered_with lane past ≡ entered_with lane (happened before ++ front.rest) = ap (entered_with lane) front.is in
            omega (arith, held, grows, same)
      ]
