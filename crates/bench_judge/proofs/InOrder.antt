-- Events that stand in order.
use Rattle.std.proofs.Common.{◌≡◌, ◌+◌, ℕ, true, cond, List, [], ◌∷◌, ◌++◌, length, take, Some, None, Result, Ok, Err, inl, inr, refl, ap, sym, subst, ◌∙◌, arith}
use Rattle.std.proofs.lemmas.List.{take-append-le, take_at}
use Rattle.std.proofs.lemmas.Option.{cond_some, option_and_then_some, slice_get_within}
use Rattle.script_lines.specs.Text.{lines_of}
use Rattle.bench_history.specs.History.{events_from, history_of, may_follow, next_of}
use Rattle.bench_history.specs.Line.{event_of}
use Rattle.bench_history.specs.declared.event.Event.{Event}
use Rattle.bench_history.proofs.Sound.{sound_if_it_follows}
use Rattle.bench_judge.specs.Walk.{AreInOrder, AreSound}
use Rattle.bench_answers.proofs.Places.{get_pushed}

-- an event that may stand behind others
in_order_more : (before : List Event) (event : Event) → may_follow before event ≡ true → AreInOrder before → AreInOrder (before ++ event ∷ [])
in_order_more before event may order i e at =
    elim (get_pushed before event i e at) [
      | inl old ↦
          let less = slice_get_within before i e old in
          ap (λ (xs : List Event). may_follow xs e) (take-append-le i before (event ∷ []) (omega (arith, less))) ∙ order i e old
      | inr last ↦
          ap (λ (xs : List Event). may_follow xs e) (take_at before (event ∷ []) i (sym last.0))
          ∙ ap (may_follow before) (sym last.1) ∙ may
    ]

-- the next event may stand there
next_may : (before : List Event) (line : List ℕ) (event : Event) → next_of before line ≡ Some event → may_follow before event ≡ true
next_may before line event is =
    option_and_then_some (λ e. cond (may_follow before e) (Some e) None) (event_of line) event is (λ e of some.
    let both = cond_some (may_follow before e) e event some in
    ap (may_follow before) (sym both.1) ∙ both.0)

from_in_order : (lines : List (List ℕ)) (before events : List Event) → events_from before lines ≡ Ok events → AreInOrder before → AreInOrder events
from_in_order [] before events is order =
    let same : before ≡ events = cc is in
    subst (λ (xs : List Event). AreInOrder xs) same order
from_in_order (line ∷ lines) before events is order =
    elim (next_of before line) as (λ o. next_of before line ≡ o
    → elim o as (λ _. Result (List Event) ℕ) [ Some event ↦ events_from (before ++ event ∷ []) lines | None ↦ Err (length before + 1) ] ≡ Ok events
    → AreInOrder events) [
      | Some event ↦ λ next from. from_in_order lines (before ++ event ∷ []) events from (in_order_more before event (next_may before line event next) order)
      | None ↦ λ next from. cc from
    ] refl is

none_in_order : AreInOrder []
none_in_order i event at = cc at

-- a history stands in order
history_in_order : (text : List ℕ) (events : List Event) → history_of text ≡ Ok events → AreInOrder events
history_in_order text events is = from_in_order (lines_of text) [] events is none_in_order

-- so its events are sound
pub history_is_sound : (text : List ℕ) (events : List Event) → history_of text ≡ Ok events → AreSound events
history_is_sound text events is i event at = sound_if_it_follows (take i events) event (history_in_order text events is i event at)
