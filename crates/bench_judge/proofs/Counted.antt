-- Frames and replies that are counted, one event on.
use Rattle.std.proofs.Common.{◌≡◌, ◌≤◌, ◌+◌, ℕ, Bool, true, false, cond, ◌||◌, List, [], ◌∷◌, ◌++◌, take, drop, Some, refl, ap, ◌∙◌, arith}
use Rattle.std.proofs.Math.Path.{fun_ext}
use Rattle.std.specs.List.{count_by, slice_get}
use Rattle.std.proofs.lemmas.List.{take-append-drop, take-take}
use Rattle.std.proofs.lemmas.List.Folds.{list_any-append}
use Rattle.std.proofs.lemmas.List.Sums.{sum_by-append}
use Rattle.bench_history.specs.History.{frames_in, has_ended, is_end_of, is_frame, is_reply, replies_in}
use Rattle.bench_history.specs.declared.event.Event.{Event}
use Rattle.bench_judge.specs.Counted.{AreKnown, is_known, is_known_in}
use Rattle.bench_judge.specs.declared.frame.Frame.{Frame}
use Rattle.bench_answers.proofs.Places.{take_with}

counted : {X : Type 0} (p : X → Bool) (xs : List X) (i : ℕ) (x : X) → slice_get xs i ≡ Some x
    → count_by p (take (i + 1) xs) ≡ count_by p (take i xs) + cond (p x) 1 0
counted p xs i x is =
    ap (count_by p) (take_with xs i x is)
    ∙ omega (arith, sum_by-append (λ y. cond (p y) 1 0) (take i xs) (x ∷ []))

pub frames_with : (events : List Event) (i : ℕ) (event : Event) → slice_get events i ≡ Some event
    → frames_in (take (i + 1) events) ≡ frames_in (take i events) + cond (is_frame event) 1 0
frames_with events i event is = counted is_frame events i event is

pub replies_with : (events : List Event) (i : ℕ) (event : Event) → slice_get events i ≡ Some event
    → replies_in (take (i + 1) events) ≡ replies_in (take i events) + cond (is_reply event) 1 0
replies_with events i event is = counted is_reply events i event is

or_false : (b : Bool) → (b || false) ≡ b
or_false true = refl
or_false false = refl

pub ended_with : (n : ℕ) (events : List Event) (i : ℕ) (event : Event) → slice_get events i ≡ Some event
    → has_ended n (take (i + 1) events) ≡ (has_ended n (take i events) || is_end_of n event)
ended_with n events i event is =
    ap (λ (xs : List Event). has_ended n xs) (take_with events i event is)
    ∙ list_any-append (is_end_of n) (take i events) (event ∷ [])
    ∙ ap (λ (b : Bool). has_ended n (take i events) || b) (or_false (is_end_of n event))

-- a longer front has no fewer
counted_front : {X : Type 0} (p : X → Bool) (xs : List X) (i j : ℕ) → i ≤ j → count_by p (take i xs) ≤ count_by p (take j xs)
counted_front p xs i j within =
    let front : count_by p (take i (take j xs)) ≡ count_by p (take i xs) = ap (count_by p) (take-take i j xs within) in
    let all : count_by p (take i (take j xs) ++ drop i (take j xs)) ≡ count_by p (take j xs) = ap (count_by p) (take-append-drop i (take j xs)) in
    omega (arith, front, all, sum_by-append (λ y. cond (p y) 1 0) (take i (take j xs)) (drop i (take j xs)))

pub frames_front : (events : List Event) (i j : ℕ) → i ≤ j → frames_in (take i events) ≤ frames_in (take j events)
frames_front events i j within = counted_front is_frame events i j within

-- ---- of which frames enough is known

pub known_same : (events : List Event) (frames : List Frame) → AreKnown events frames → is_known_in frames ≡ is_known events
known_same events frames known = fun_ext known
