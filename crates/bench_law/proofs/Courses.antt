-- Steps in parts: what happens in them, and what they show.
use Rattle.std.proofs.Common.{◌≡◌, ◌<◌, ℕ, zero, suc, Bool, List, [], ◌∷◌, ◌++◌, length, take, Some, slice_get, fold, inl, inr, refl, sym, ap, subst, ◌∙◌, arith, append_assoc, append-nil}
use Rattle.std.proofs.lemmas.Bool.{cases_lt}
use Rattle.std.proofs.lemmas.Grind.{flat_map-append}
use Rattle.std.proofs.lemmas.List.Elements.{filter_map-append}
use Rattle.plan_publish.specs.World.{World, opening, happens, IsPossible, IsRun, world_after, Event as MachineEvent}
use Rattle.plan_publish.specs.Interleavings.{request_in as carried_by, requests_in}
use Rattle.bench_history.specs.declared.event.Event.{Event}
use Rattle.bench_answers.specs.Ground.{collected}
use Rattle.bench_answers.specs.Asked.{asked, asked_by}
use Rattle.bench_law.specs.Steps.{Step, Happens, Shows, happening, line_of, happened, shown}
use Rattle.bench_law.proofs.Fronts.{IsFront, front_shorter, fronts_taken, parted}

pub happened_append : (xs ys : List Step) → happened (xs ++ ys) ≡ happened xs ++ happened ys
happened_append xs ys = filter_map-append happening xs ys

pub shown_append : (xs ys : List Step) → shown (xs ++ ys) ≡ shown xs ++ shown ys
shown_append xs ys = filter_map-append line_of xs ys

-- ---- fronts

pub happened_front : {xs ys : List Step} → IsFront xs ys → IsFront (happened xs) (happened ys)
happened_front {xs} f = record { rest = happened f.rest; is = ap happened f.is ∙ happened_append xs f.rest }

pub shown_front : {xs ys : List Step} → IsFront xs ys → IsFront (shown xs) (shown ys)
shown_front {xs} f = record { rest = shown f.rest; is = ap shown f.is ∙ shown_append xs f.rest }

pub requests_front : {xs ys : List MachineEvent} → IsFront xs ys → IsFront (requests_in xs) (requests_in ys)
requests_front {xs} f = record { rest = requests_in f.rest; is = ap requests_in f.is ∙ flat_map-append carried_by xs f.rest }

collected_append : {A : Type 0} (adds : List Event → Event → List A) (before xs ys : List Event)
    → collected adds before (xs ++ ys) ≡ collected adds before xs ++ collected adds (before ++ xs) ys
collected_append adds before [] ys = ap (λ all. collected adds all ys) (sym (append-nil before))
collected_append adds before (x ∷ xs) ys =
    ap (λ more. adds before x ++ more) (collected_append adds (before ++ x ∷ []) xs ys)
    ∙ ap (λ all. adds before x ++ (collected adds (before ++ x ∷ []) xs ++ collected adds all ys)) (append_assoc before (x ∷ []) xs)
    ∙ sym (append_assoc (adds before x) (collected adds (before ++ x ∷ []) xs) (collected adds (before ++ x ∷ xs) ys))

pub asked_front : (repeats : Bool) {xs ys : List Event} → IsFront xs ys → IsFront (asked repeats xs) (asked repeats ys)
asked_front repeats {xs} f =
    record {
      rest = collected (asked_by repeats) xs f.rest;
      is = ap (λ (es : List Event). asked repeats es) f.is ∙ collected_append (asked_by repeats) [] xs f.rest;
    }

-- steps that show fewer lines come first
pub comes_first : (i k : ℕ) (steps : List Step) → length (shown (take i steps)) < length (shown (take k steps)) → i < k
comes_first i k steps less =
    elim (cases_lt i k) [
      | inl first ↦ first
      | inr later ↦ absurd (omega (arith, less, front_shorter (shown_front (fronts_taken k i steps later))))
    ]

-- ---- runs

run_front : (lanes : ℕ) (w : World) (xs ys : List MachineEvent) → IsRun lanes w (xs ++ ys) → IsRun lanes w xs
run_front lanes w [] ys run = tt
run_front lanes w (x ∷ xs) ys run = (run.0, run_front lanes (happens w x) xs ys run.1)

pub run_of : (lanes : ℕ) {xs ys : List Step} → IsFront xs ys → IsRun lanes opening (happened ys) → IsRun lanes opening (happened xs)
run_of lanes {xs} f run =
    let g = happened_front f in run_front lanes opening (happened xs) g.rest (subst (λ es. IsRun lanes opening es) g.is run)

-- an event of the machine by its place
pub event_at : (steps : List Step) (place : ℕ) (event : MachineEvent) → slice_get steps place ≡ Some (Happens event)
    → (rest : List MachineEvent) × (happened steps ≡ happened (take place steps) ++ event ∷ rest)
event_at steps place event at =
    let p = parted place steps (Happens event) at in
    (happened p.0, ap happened p.1 ∙ happened_append (take place steps) (Happens event ∷ p.0))

pub run_at : (lanes : ℕ) (steps : List Step) (place : ℕ) (event : MachineEvent) → slice_get steps place ≡ Some (Happens event)
    → IsRun lanes opening (happened steps) → (rest : List MachineEvent) × IsRun lanes opening (happened (take place steps) ++ event ∷ rest)
run_at lanes steps place event at run =
    let e = event_at steps place event at in (e.0, subst (λ es. IsRun lanes opening es) e.1 run)

possible : (lanes : ℕ) (w : World) (past rest : List MachineEvent) (event : MachineEvent) → IsRun lanes w (past ++ event ∷ rest)
    → IsPossible lanes (fold happens w past) event
possible lanes w [] rest event run = run.0
possible lanes w (first ∷ past) rest event run = possible lanes (happens w first) past rest event run.1

-- an event is possible where it comes
pub possible_at : (lanes : ℕ) (past rest : List MachineEvent) (event : MachineEvent) → IsRun lanes opening (past ++ event ∷ rest)
    → IsPossible lanes (world_after past) event
possible_at lanes past rest event run = possible lanes opening past rest event run

-- ---- lines by their numbers

pub record LineAt (steps : List Step) (number : ℕ) (line : Event) : Type 0 where
  pub place : ℕ
  pub at : slice_get steps place ≡ Some (Shows line)
  pub before : shown (take place steps) ≡ take number (shown steps)

pub line_at : (steps : List Step) (number : ℕ) (line : Event) → slice_get (shown steps) number ≡ Some line → LineAt steps number line
line_at [] number line at = absurd (cc at)
line_at (Happens event ∷ steps) number line at =
    let l = line_at steps number line at in record { place = suc l.place; at = l.at; before = l.before }
line_at (Shows first ∷ steps) zero line at =
    let same : first ≡ line = cc at in record { place = 0; at = ap (λ (x : Event). Some (Shows x)) same; before = refl }
line_at (Shows first ∷ steps) (suc number) line at =
    let l = line_at steps number line at in record { place = suc l.place; at = l.at; before = ap (λ lines. first ∷ lines) l.before }
