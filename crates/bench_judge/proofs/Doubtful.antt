-- Which frames are doubtful, by their marks.
use Rattle.std.proofs.Common.{◌≡◌, ◌<◌, ◌+◌, ℕ, zero, suc, Bool, true, false, cond, ◌||◌, List, [], ◌∷◌, ◌++◌, length, take, get_or, set, replicate, refl, ap, sym, ◌∙◌, arith, length-set, get_or-set_same, get_or-set_other}
use Rattle.std.specs.Prelude.{◌==◌, slice_index_or}
use Rattle.std.specs.List.{count_by, list_any, range_with_len}
use Rattle.std.proofs.lemmas.Bool.{eqb-true, eqb-false}
use Rattle.std.proofs.lemmas.List.{append-nil, get_or-replicate, length-replicate, take_more}
use Rattle.std.proofs.lemmas.Grind.{flat_map-append}
use Rattle.std.proofs.lemmas.List.Folds.{list_any-append}
use Rattle.std.proofs.lemmas.List.Sums.{sum_by-cons}
use Rattle.bench_history.specs.Among.{OneOf}
use Rattle.bench_history.specs.History.{doubt_of, doubts_in, frames_in, is_among, is_doubtful}
use Rattle.bench_history.specs.declared.event.Event.{Event}
use Rattle.bench_history.specs.declared.event.Event.TheVariants.{LeftOneOf}
use Rattle.bench_history.specs.declared.extent.Extent.{Extent}
use Rattle.bench_history.specs.declared.gem.SeenGem.{SeenGem}
use Rattle.bench_judge.specs.Counted.{AreMarks, doubtful_in, marked}

-- ---- marks that are set

marked_length : (numbers : List ℕ) (marks : List Bool) → length (marked numbers marks) ≡ length marks
marked_length [] marks = refl
marked_length (m ∷ numbers) marks = marked_length numbers (set marks m true) ∙ length-set marks m true

or_true : (a : Bool) → (a || true) ≡ true
or_true true = refl
or_true false = refl

-- a frame of one of the numbers is marked, and another one as it was
marked_at : (numbers : List ℕ) (marks : List Bool) (n : ℕ) → n < length marks
    → slice_index_or (marked numbers marks) n false ≡ (is_among numbers n || slice_index_or marks n false)
marked_at [] marks n within = refl
marked_at (m ∷ numbers) marks n within =
    let long : length (set marks m true) ≡ length marks = length-set marks m true in
    marked_at numbers (set marks m true) n (omega (arith, within, long)) ∙ one (m == n) refl
  where
    one : (b : Bool) → (m == n) ≡ b
        → (is_among numbers n || slice_index_or (set marks m true) n false) ≡ ((m == n || is_among numbers n) || slice_index_or marks n false)
    one true is =
        let same : m ≡ n = eqb-true m n is in
        ap (λ (b : Bool). is_among numbers n || b) (ap (λ (k : ℕ). slice_index_or (set marks k true) n false) same ∙ get_or-set_same marks n true false within)
        ∙ or_true (is_among numbers n) ∙ sym (ap (λ (b : Bool). (b || is_among numbers n) || slice_index_or marks n false) is)
    one false is =
        ap (λ (b : Bool). is_among numbers n || b) (get_or-set_other marks m n true false (λ e. eqb-false m n is (sym e)))
        ∙ sym (ap (λ (b : Bool). (b || is_among numbers n) || slice_index_or marks n false) is)

-- ---- marks of events

-- the front with what is read behind it
pub take_read : {X : Type 0} (xs : List X) (i : ℕ) (x : X) → i < length xs → x ≡ get_or xs i x → take (i + 1) xs ≡ take i xs ++ x ∷ []
take_read xs i x within is = take_more xs i x within ∙ ap (λ y. take i xs ++ y ∷ []) (sym is)

pub nothing_marked : (frames : ℕ) (marks : List Bool) → marks ≡ replicate frames false → AreMarks [] frames marks
nothing_marked frames marks is = record {
  count = ap (λ (ms : List Bool). length ms) is ∙ length-replicate frames false;
  each = λ n within. ap (λ (ms : List Bool). slice_index_or ms n false) is ∙ get_or-replicate frames n false false within;
}

last_first : (a b : Bool) → (a || b) ≡ (b || (a || false))
last_first true true = refl
last_first true false = refl
last_first false true = refl
last_first false false = refl

doubts_with : (before : List Event) (event : Event) → doubts_in (before ++ event ∷ []) ≡ doubts_in before ++ doubt_of event
doubts_with before event = flat_map-append doubt_of before (event ∷ []) ∙ ap (λ (ds : List (List ℕ)). doubts_in before ++ ds) (append-nil (doubt_of event))

pub marked_next : (before : List Event) (gem : SeenGem) (extent : Extent) (among : OneOf) (frames : ℕ) (old new : List Bool)
    → new ≡ marked among.numbers old → AreMarks before frames old → AreMarks (before ++ LeftOneOf gem extent among ∷ []) frames new
marked_next before gem extent among frames old new is are = record {
  count = ap (λ (ms : List Bool). length ms) is ∙ marked_length among.numbers old ∙ are.count;
  each = λ n within.
      let event : Event = LeftOneOf gem extent among in
      ap (λ (ms : List Bool). slice_index_or ms n false) is ∙ marked_at among.numbers old n (omega (arith, within, are.count))
      ∙ ap (λ (b : Bool). is_among among.numbers n || b) (are.each n within)
      ∙ last_first (is_among among.numbers n) (is_doubtful n before)
      ∙ sym (ap (λ (ds : List (List ℕ)). list_any (λ fs. is_among fs n) ds) (doubts_with before event) ∙ list_any-append (λ fs. is_among fs n) (doubts_in before) (doubt_of event));
}

-- an event that says of no frames that one left
pub not_marked : (before : List Event) (event : Event) (frames : ℕ) (marks : List Bool) → doubt_of event ≡ [] → AreMarks before frames marks
    → AreMarks (before ++ event ∷ []) frames marks
not_marked before event frames marks none are =
    let same : doubts_in (before ++ event ∷ []) ≡ doubts_in before =
    doubts_with before event ∙ ap (λ (ds : List (List ℕ)). doubts_in before ++ ds) none ∙ append-nil (doubts_in before) in
    record {
      count = are.count;
      each = λ n within. are.each n within ∙ ap (λ (ds : List (List ℕ)). list_any (λ fs. is_among fs n) ds) (sym same);
    }

-- ---- how many are set

-- marks say of each number from one on whether it passes
counted_marks : (p : ℕ → Bool) (marks : List Bool) (start : ℕ) → ((n : ℕ) → n < length marks → slice_index_or marks n false ≡ p (start + n))
    → count_by (λ (mark : Bool). mark) marks ≡ count_by p (range_with_len start (length marks))
counted_marks p [] start each = refl
counted_marks p (mark ∷ marks) start each =
    let first : mark ≡ p start = each zero (omega arith) ∙ ap p (omega arith) in
    let others = counted_marks p marks (start + 1) (λ n within. each (suc n) (omega (arith, within)) ∙ ap p (omega arith)) in
    sum_by-cons (λ (m : Bool). cond m 1 0) mark marks
    ∙ omega (arith, others, ap {B = ℕ} (λ (b : Bool). cond b 1 0) first)
    ∙ sym (sum_by-cons (λ (n : ℕ). cond (p n) 1 0) start (range_with_len (start + 1) (length marks)))

pub marks_count : (events : List Event) (frames : ℕ) (marks : List Bool) → frames ≡ frames_in events → AreMarks events frames marks
    → count_by (λ (mark : Bool). mark) marks ≡ doubtful_in events
marks_count events frames marks same are =
    counted_marks (λ n. is_doubtful n events) marks 0
    (λ n within. are.each n (omega (arith, within, are.count)) ∙ ap (λ (k : ℕ). is_doubtful k events) (omega arith))
    ∙ ap (λ (k : ℕ). count_by (λ n. is_doubtful n events) (range_with_len 0 k)) (are.count ∙ same)
