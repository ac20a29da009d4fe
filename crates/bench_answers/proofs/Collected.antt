-- What events add, one event on.
use Rattle.std.proofs.Common.{◌≡◌, ◌+◌, ℕ, List, [], ◌∷◌, ◌++◌, take, Option, Some, refl, ap, sym, ◌∙◌, append-nil}
use Rattle.std.specs.List.{slice_get}
use Rattle.std.proofs.Math.Seq.{append_snoc}
use Rattle.std.proofs.lemmas.List.{append_assoc}
use Rattle.bench_history.specs.declared.event.Event.{Event}
use Rattle.bench_answers.specs.Ground.{Ground, collected}
use Rattle.bench_answers.specs.Asked.{last_from, last_sent, last_with}
use Rattle.bench_answers.specs.Standing.{standings, standings_behind, stands}
use Rattle.bench_answers.specs.declared.standing.Standing.{Standing}
use Rattle.bench_answers.proofs.Places.{take_with}

collected_more : {A : Type 0} (adds : List Event → Event → List A) (before xs : List Event) (event : Event)
    → collected adds before (xs ++ event ∷ []) ≡ collected adds before xs ++ adds (before ++ xs) event
collected_more adds before [] event = append-nil (adds before event) ∙ ap (λ all. adds all event) (sym (append-nil before))
collected_more adds before (x ∷ xs) event =
    ap (λ more. adds before x ++ more) (collected_more adds (before ++ x ∷ []) xs event)
    ∙ ap (λ all. adds before x ++ (collected adds (before ++ x ∷ []) xs ++ adds all event)) (append_snoc before x xs)
    ∙ sym (append_assoc (adds before x) (collected adds (before ++ x ∷ []) xs) (adds (before ++ x ∷ xs) event))

-- the event adds what it adds behind those before it
pub collected_with : {A : Type 0} (adds : List Event → Event → List A) (events : List Event) (place : ℕ) (event : Event) → slice_get events place ≡ Some event
    → collected adds [] (take (place + 1) events) ≡ collected adds [] (take place events) ++ adds (take place events) event
collected_with adds events place event at =
    ap (λ xs. collected adds [] xs) (take_with events place event at) ∙ collected_more adds [] (take place events) event

last_more : (last : Option (List ℕ)) (xs : List Event) (event : Event) → last_from last (xs ++ event ∷ []) ≡ last_with (last_from last xs) event
last_more last [] event = refl
last_more last (x ∷ xs) event = last_more (last_with last x) xs event

pub last_sent_with : (events : List Event) (place : ℕ) (event : Event) → slice_get events place ≡ Some event
    → last_sent (take (place + 1) events) ≡ last_with (last_sent (take place events)) event
last_sent_with events place event at = ap (λ xs. last_sent xs) (take_with events place event at) ∙ last_more _ (take place events) event

standings_more : (grounds : Ground) (before : List Event) (replies : List Standing) (xs : List Event) (event : Event)
    → standings_behind grounds before replies (xs ++ event ∷ [])
    ≡ standings_behind grounds before replies xs ++ stands grounds (before ++ xs) (standings_behind grounds before replies xs) event
standings_more grounds before replies [] event = ap (λ all. replies ++ stands grounds all replies event) (sym (append-nil before))
standings_more grounds before replies (x ∷ xs) event =
    let more : List Standing = replies ++ stands grounds before replies x in
    standings_more grounds (before ++ x ∷ []) more xs event
    ∙ ap (λ all. standings_behind grounds (before ++ x ∷ []) more xs ++ stands grounds all (standings_behind grounds (before ++ x ∷ []) more xs) event)
    (append_snoc before x xs)

-- so does what it stands for
pub standings_with : (grounds : Ground) (events : List Event) (place : ℕ) (event : Event) → slice_get events place ≡ Some event
    → standings grounds (take (place + 1) events)
    ≡ standings grounds (take place events) ++ stands grounds (take place events) (standings grounds (take place events)) event
standings_with grounds events place event at =
    ap (λ xs. standings grounds xs) (take_with events place event at) ∙ standings_more grounds [] [] (take place events) event
