-- The requests that were carried out are a front of those that were to be.
use Rattle.std.proofs.Common.{◌≡◌, ℕ, zero, suc, List, [], ◌∷◌, ◌++◌, length, take, Some, slice_get, inl, inr, refl, sym, ap, subst, ◌∙◌, append_assoc, append-nil}
use Rattle.std.proofs.lemmas.Grind.{flat_map-append}
use Rattle.omci_msg.specs.declared.request.Request.{Request}
use Rattle.plan_publish.specs.World.{Event as MachineEvent, Message, Publish, Tell, Enter, Forward, Leave}
use Rattle.plan_publish.specs.Interleavings.{request_in as carried_by, requests_in}
use Rattle.bench_history.specs.declared.event.Event.{Event}
use Rattle.bench_answers.specs.Ground.{Ground}
use Rattle.bench_answers.specs.Asked.{asked}
use Rattle.bench_law.specs.Steps.{Step, Happens, Shows, happened, shown, carried}
use Rattle.bench_law.proofs.Fronts.{IsFront, front_behind, front_of_front, front_pushed, next_is, one_more}
use Rattle.bench_law.proofs.Courses.{asked_front, happened_append, shown_append, shown_front}

-- the requests of the script, and those that were sent by the lines that steps show
abbrev pub due : Ground → List Step → List Request
due grounds steps = grounds.start ++ asked grounds.repeats (shown steps)

-- each request that is carried out is the next of those that were to be before
abbrev pub AreCarriedInOrder : Ground → List Step → Type 0
AreCarriedInOrder grounds steps = (place : ℕ) (q : Request) → slice_get steps place ≡ Some (Happens (Message q))
    → slice_get (due grounds (take place steps)) (length (carried (take place steps))) ≡ Some q

-- more lines ask more
pub due_front : (grounds : Ground) {xs ys : List Event} → IsFront xs ys → IsFront (grounds.start ++ asked grounds.repeats xs) (grounds.start ++ asked grounds.repeats ys)
due_front grounds f = front_behind grounds.start (asked_front grounds.repeats f)

-- ---- one step more

carried_event : (past : List Step) (event : MachineEvent) → carried (past ++ Happens event ∷ []) ≡ carried past ++ carried_by event
carried_event past event =
    ap requests_in (happened_append past (Happens event ∷ []))
    ∙ flat_map-append carried_by (happened past) (event ∷ [])
    ∙ ap (λ qs. carried past ++ qs) (append-nil (carried_by event))

after_line : (grounds : Ground) (past : List Step) (line : Event) → IsFront (carried past) (due grounds past)
    → IsFront (carried (past ++ Shows line ∷ [])) (due grounds (past ++ Shows line ∷ []))
after_line grounds past line f =
    let same : carried (past ++ Shows line ∷ []) ≡ carried past =
    ap requests_in (happened_append past (Shows line ∷ []) ∙ append-nil (happened past)) in
    subst (λ qs. IsFront qs (due grounds (past ++ Shows line ∷ []))) (sym same)
    (front_of_front f (due_front grounds (shown_front (front_pushed past (Shows line)))))

due_same : (grounds : Ground) (past : List Step) (event : MachineEvent) → due grounds (past ++ Happens event ∷ []) ≡ due grounds past
due_same grounds past event = ap (λ (es : List Event). grounds.start ++ asked grounds.repeats es) (shown_append past (Happens event ∷ []) ∙ append-nil (shown past))

after_quiet : (grounds : Ground) (past : List Step) (event : MachineEvent) → carried_by event ≡ [] → IsFront (carried past) (due grounds past)
    → IsFront (carried (past ++ Happens event ∷ [])) (due grounds (past ++ Happens event ∷ []))
after_quiet grounds past event none f =
    let same : carried (past ++ Happens event ∷ []) ≡ carried past =
    carried_event past event ∙ ap (λ qs. carried past ++ qs) none ∙ append-nil (carried past) in
    record { rest = f.rest; is = due_same grounds past event ∙ f.is ∙ ap (λ qs. qs ++ f.rest) (sym same) }

after_message : (grounds : Ground) (past : List Step) (q : Request) → slice_get (due grounds past) (length (carried past)) ≡ Some q → IsFront (carried past) (due grounds past)
    → IsFront (carried (past ++ Happens (Message q) ∷ [])) (due grounds (past ++ Happens (Message q) ∷ []))
after_message grounds past q at f =
    let next = next_is (carried past) f.rest q (ap (λ (qs : List Request). slice_get qs (length (carried past))) (sym f.is) ∙ at) in
    record {
      rest = next.0;
      is =
          due_same grounds past (Message q) ∙ f.is ∙ ap (λ qs. carried past ++ qs) next.1 ∙ sym (append_assoc (carried past) (q ∷ []) next.0)
          ∙ ap (λ qs. qs ++ next.0) (sym (carried_event past (Message q)));
    }

-- ---- over all steps

module _ (grounds : Ground) (steps : List Step) (in_order : AreCarriedInOrder grounds steps) where
  after_step : (place : ℕ) (step : Step) → slice_get steps place ≡ Some step → IsFront (carried (take place steps)) (due grounds (take place steps))
      → IsFront (carried (take place steps ++ step ∷ [])) (due grounds (take place steps ++ step ∷ []))
  after_step place (Shows line) at f = after_line grounds (take place steps) line f
  after_step place (Happens (Message q)) at f = after_message grounds (take place steps) q (in_order place q at) f
  after_step place (Happens Publish) at f = after_quiet grounds (take place steps) Publish refl f
  after_step place (Happens (Tell lane token)) at f = after_quiet grounds (take place steps) (Tell lane token) refl f
  after_step place (Happens (Enter lane)) at f = after_quiet grounds (take place steps) (Enter lane) refl f
  after_step place (Happens (Forward lane port bytes)) at f = after_quiet grounds (take place steps) (Forward lane port bytes) refl f
  after_step place (Happens (Leave lane)) at f = after_quiet grounds (take place steps) (Leave lane) refl f

  pub carried_front : (place : ℕ) → IsFront (carried (take place steps)) (due grounds (take place steps))
  carried_front zero = record { rest = due grounds []; is = refl }
  carried_front (suc place) =
      elim (one_more place steps) [
        | inl same ↦ subst (λ l. IsFront (carried l) (due grounds l)) (sym same) (carried_front place)
        | inr more ↦ subst (λ l. IsFront (carried l) (due grounds l)) (sym more.2) (after_step place more.0 more.1 (carried_front place))
      ]
