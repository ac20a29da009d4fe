-- Texts in pieces: where lines end, and the events of a text behind another.
use Rattle.std.proofs.Common.{◌≡◌, ℕ, zero, suc, ◌+◌, ◌<◌, ◌≤◌, Bool, true, false, List, [], ◌∷◌, ◌++◌, length, take, drop, slice_index, refl, ap, sym, subst, ◌∙◌, ◌⊎◌, inl, inr, append_assoc, length-take-le, arith}
use Rattle.std.specs.Prelude.{◌==◌, Option, Some, None, Ok, Err}
use Rattle.std.proofs.lemmas.List.{append-nil, get_or-take}
use Rattle.std.proofs.Math.Seq.{drop-nil}
use Rattle.script_lines.specs.Text.{cut, last_line, lines_of}
use Rattle.script_lines.proofs.Cutting.{NoFeedBelow, cut-append, cut-first}
use Rattle.bench_history.specs.declared.event.Event.{Event}
use Rattle.bench_history.specs.declared.fault.HistoryFault.{HistoryFault}
use Rattle.bench_history.specs.declared.fault.HistoryFault.TheVariants.{BadLine, NoMemory}
use Rattle.bench_history.specs.History.{IsWhyStopped, IsWhyUnread, events_from, history_of, next_of}
use Rattle.bench_history.specs.Borders.{IsEnded, IsWhole}
use Rattle.bench_history.proofs.Steps.{from_next}

-- ---- where lines end

-- behind whole lines the lines of what follows stand by themselves
pub lines-append : (a b : List ℕ) → IsWhole a → lines_of (a ++ b) ≡ lines_of a ++ lines_of b
lines-append a b whole =
    let ended = (cut a).ended in
    let after = cut b in
    let both : lines_of (a ++ b) ≡ (ended ++ after.ended) ++ last_line after.rest =
    rw (cut-append a b, whole) refl in
    let first : lines_of a ≡ ended = rw whole (append-nil ended) in
    both ∙ append_assoc ended after.ended (last_line after.rest) ∙ ap (λ (ls : List (List ℕ)). ls ++ lines_of b) (sym first)

pub whole : (a : List ℕ) → IsEnded a → IsWhole a
whole a ended = rw ended.is refl

-- what ends with a line's end does so behind other bytes too
pub ended-append : (a b : List ℕ) → IsEnded b → IsEnded (a ++ b)
ended-append [] b ended = ended
ended-append (x ∷ a) b ended = longer (x == 10) refl (ended-append a b ended)
  where
    longer : (feed : Bool) → (x == 10) ≡ feed → IsEnded (a ++ b) → IsEnded (x ∷ (a ++ b))
    longer true is e = record { line = []; lines = e.line ∷ e.lines; is = rw (is, e.is) refl }
    longer false is e = record { line = x ∷ e.line; lines = e.lines; is = rw (is, e.is) refl }

none_left : (n : ℕ) (xs : List ℕ) → length xs ≤ n → drop n xs ≡ []
none_left n [] short = drop-nil n
none_left zero (x ∷ xs) short = absurd (omega arith)
none_left (suc n) (x ∷ xs) short = none_left n xs (omega arith)

-- up to its first line feed a text is ended
pub first_ended : (bytes : List ℕ) (end : ℕ) → end < length bytes → slice_index bytes end ≡ 10 → NoFeedBelow bytes end → IsEnded (take (end + 1) bytes)
first_ended bytes end lt is none =
    let front = take (end + 1) bytes in
    let long : length front ≡ end + 1 = length-take-le (end + 1) bytes (omega (arith, lt)) in
    let there : slice_index front end ≡ 10 = get_or-take (end + 1) bytes end 0 (omega arith) ∙ is in
    let before : NoFeedBelow front end = λ k below feed. none k below (sym (get_or-take (end + 1) bytes k 0 (omega (arith, below))) ∙ feed) in
    let all = cut-first front end (omega (arith, long)) there before in
    let nothing : drop (suc end) front ≡ [] = none_left (suc end) front (omega (arith, long)) in
    record { line = take end front; lines = []; is = all ∙ rw nothing refl }

-- and what follows that ends as the whole does
pub rest_whole : (bytes : List ℕ) (end : ℕ) → end < length bytes → slice_index bytes end ≡ 10 → NoFeedBelow bytes end → IsEnded bytes
    → IsWhole (drop (end + 1) bytes)
rest_whole bytes end lt is none ended =
    let next : suc end ≡ end + 1 = omega arith in
    let all = cut-first bytes end lt is none in
    subst (λ n. IsWhole (drop n bytes)) next (sym (ap (λ c. c.rest) all) ∙ ap (λ c. c.rest) ended.is)

-- a piece in front of others whose lines stand by themselves
pub whole_more : (own behind : List ℕ) (lines : List (List ℕ)) → lines_of behind ≡ lines → behind ≡ [] ⊎ IsWhole own
    → lines_of (own ++ behind) ≡ lines_of own ++ lines
whole_more own behind lines is border =
    elim border [
      | inl none ↦
          ap (λ (b : List ℕ). lines_of (own ++ b)) none ∙ ap (λ (b : List ℕ). lines_of b) (append-nil own) ∙ sym (append-nil (lines_of own))
          ∙ ap (λ (ls : List (List ℕ)). lines_of own ++ ls) (sym (ap (λ (b : List ℕ). lines_of b) none) ∙ is)
      | inr whole ↦ lines-append own behind whole ∙ ap (λ (ls : List (List ℕ)). lines_of own ++ ls) is
    ]

-- where a piece is cut off, the line in front of it ends, or nothing is behind
pub border_on : (own behind line rest : List ℕ) → (IsEnded rest → IsEnded line × IsWhole own) → IsEnded line ⊎ own ≡ [] → behind ≡ [] ⊎ IsEnded rest
    → (own ++ behind ≡ []) ⊎ IsEnded line
border_on own behind line rest both alone border =
    elim border [
      | inl none ↦ elim alone [ inl ended ↦ inr ended | inr nothing ↦ inl (rw (nothing, none) refl) ]
      | inr ended ↦ inr (both ended).0
    ]

-- ---- events behind others

pub events_go_on : (before : List Event) (xs ys : List (List ℕ)) (mid : List Event) → events_from before xs ≡ Ok mid
    → events_from before (xs ++ ys) ≡ events_from mid ys
events_go_on before [] ys mid is = ap (λ e. events_from e ys) (cc is)
events_go_on before (line ∷ xs) ys mid is =
    step (next_of before line) (λ event read. events_go_on (before ++ event ∷ []) xs ys mid read) is
  where
    step : (next : Option Event)
        → ((event : Event) → events_from (before ++ event ∷ []) xs ≡ Ok mid → events_from (before ++ event ∷ []) (xs ++ ys) ≡ events_from mid ys)
        → from_next before xs next ≡ Ok mid → from_next before (xs ++ ys) next ≡ events_from mid ys
    step (Some event) more read = more event read
    step None more read = cc read

pub events_stop : (before : List Event) (xs ys : List (List ℕ)) (n : ℕ) → events_from before xs ≡ Err n
    → events_from before (xs ++ ys) ≡ Err n
events_stop before [] ys n is = cc is
events_stop before (line ∷ xs) ys n is =
    step (next_of before line) (λ event read. events_stop (before ++ event ∷ []) xs ys n read) is
  where
    step : (next : Option Event)
        → ((event : Event) → events_from (before ++ event ∷ []) xs ≡ Err n → events_from (before ++ event ∷ []) (xs ++ ys) ≡ Err n)
        → from_next before xs next ≡ Err n → from_next before (xs ++ ys) next ≡ Err n
    step (Some event) more read = more event read
    step None more read = read

-- why a text isn't read, where a line behind the events so far stops it
pub why_unread : (text : List ℕ) (events : List Event) (first behind : List (List ℕ)) (fault : HistoryFault)
    → history_of text ≡ events_from events (first ++ behind) → IsWhyStopped events first fault → IsWhyUnread text fault
why_unread text events first behind (BadLine n) is why = is ∙ events_stop events first behind n why
why_unread text events first behind NoMemory is why = why
