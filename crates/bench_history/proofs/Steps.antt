-- The steps of the events of a text.
use Rattle.std.proofs.Common.{◌≡◌, ℕ, ◌+◌, List, [], ◌∷◌, ◌++◌, false, length, Option, Some, None, Result, Ok, Err, cond, sym, ap}
use Rattle.std.specs.Prelude.{IfOk}
use Rattle.std.specs.Result.{is_err, is_ok}
use Rattle.bench_history.specs.History.{events_from, next_of}
use Rattle.bench_history.specs.declared.event.Event.{Event}

-- the events of more lines, by that of the first of them
abbrev pub from_next : List Event → List (List ℕ) → Option Event → Result (List Event) ℕ
from_next before lines (Some event) = events_from (before ++ event ∷ []) lines
from_next before lines None = Err (length before + 1)

-- a line with an event
pub next_line : (before : List Event) (line : List ℕ) (lines : List (List ℕ)) (event : Event)
    → Some event ≡ next_of before line → events_from before (line ∷ lines) ≡ events_from (before ++ event ∷ []) lines
next_line before line lines event is = ap (from_next before lines) (sym is)

-- what holds where a call went well
pub went_well : {T E : Type 0} (r : Result T E) (P : Type 0) → is_err r ≡ false → IfOk r (λ _. P) → P
went_well (Ok x) P is holds = holds
went_well (Err e) P is holds = cc is

pub grown : {T E : Type 0} {X : Type 0} (r : Result T E) (now more was : List X) → is_err r ≡ false → now ≡ cond (is_ok r) more was → now ≡ more
grown (Ok x) now more was is items = items
grown (Err e) now more was is items = cc is
