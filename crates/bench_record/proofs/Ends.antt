-- The least and the greatest of times, and what captures pass by them.
use Rattle.std.proofs.Common.{◌≡◌, ◌≤◌, ◌<◌, ◌+◌, ℕ, ◌&&◌, ◌||◌, Bool, true, false, not, List, [], ◌∷◌, ◌++◌, Option, Some, None, length, map, take, get_or, refl, ap, sym, ◌∙◌, arith, subst}
use Rattle.std.specs.Prelude.{max, min, nat_le, nat_lt}
use Rattle.std.specs.List.{list_all, list_any}
use Rattle.std.proofs.lemmas.Bool.{le-leb, leb-false, leb-true, lt-ltb, ltb-true}
use Rattle.std.proofs.lemmas.List.{map_more, take_more}
use Rattle.std.proofs.lemmas.List.Folds.{list_any-append}
use Rattle.bench_record.specs.Matching.{later}
use Rattle.bench_record.specs.Recorded.{covers, had_begun, is_behind, is_early, is_into, is_into_side, is_out_of, is_out_of_side, is_watched, lasts, latest, times_of}
use Rattle.bench_record.specs.Spans.{AreSpans, HoldsEarlier, HoldsLater, IsSpanOf, IsWithin, goes_on, has_begun, is_begun, is_going_on, is_lasting, lasts_by, widened}
use Rattle.bench_record.specs.declared.captured.Capture.{Capture}
use Rattle.bench_record.specs.declared.captured.CapturedFrame.{CapturedFrame}
use Rattle.bench_record.specs.declared.captured.Side.{Side}
use Rattle.bench_record.specs.declared.spans.Span.{Span}

-- ---- one time more

or_nothing : (b : Bool) → (b || false) ≡ b
or_nothing true = refl
or_nothing false = refl

first_decides : (a b : Bool) → (b ≡ true → a ≡ true) → (a || b) ≡ a
first_decides true b more = refl
first_decides false true more = sym (more refl)
first_decides false false more = refl

last_decides : (a b : Bool) → (a ≡ true → b ≡ true) → (a || b) ≡ b
last_decides true b more = sym (more refl)
last_decides false b more = refl

earlier_of : (p : ℕ → Bool) → HoldsEarlier p → (a b : ℕ) → (p a || p b) ≡ p (min b a)
earlier_of p down a b = here (nat_le a b) refl
  where
    here : (c : Bool) → nat_le a b ≡ c → (p a || p b) ≡ p (min b a)
    here true found =
        let within : a ≤ b = leb-true a b found in
        let least : a ≡ min b a = omega (arith, within) in
        first_decides (p a) (p b) (down a b within) ∙ ap p least
    here false found =
        let within : b ≤ a = omega (arith, leb-false a b found) in
        let least : b ≡ min b a = omega (arith, within) in
        last_decides (p a) (p b) (down b a within) ∙ ap p least

later_of : (p : ℕ → Bool) → HoldsLater p → (a b : ℕ) → (p a || p b) ≡ p (max b a)
later_of p up a b = here (nat_le a b) refl
  where
    here : (c : Bool) → nat_le a b ≡ c → (p a || p b) ≡ p (max b a)
    here true found =
        let within : a ≤ b = leb-true a b found in
        let greatest : b ≡ max b a = omega (arith, within) in
        last_decides (p a) (p b) (up a b within) ∙ ap p greatest
    here false found =
        let within : b ≤ a = omega (arith, leb-false a b found) in
        let greatest : a ≡ max b a = omega (arith, within) in
        first_decides (p a) (p b) (up b a within) ∙ ap p greatest

ends_more : (times : List ℕ) (ends : Option (ℕ × ℕ)) (t : ℕ) → IsWithin times ends → IsWithin (times ++ t ∷ []) (widened ends t)
ends_more times None t is =
    let alone : (p : ℕ → Bool) → list_any p (times ++ t ∷ []) ≡ p t =
    λ p. ap (λ (ts : List ℕ). list_any p (ts ++ t ∷ [])) is ∙ or_nothing (p t) in
    record { first = λ p down. alone p; last = λ p up. alone p }
ends_more times (Some (least, greatest)) t is =
    record {
      first = λ p down.
          list_any-append p times (t ∷ []) ∙ ap (λ (b : Bool). b || (p t || false)) (is.first p down)
          ∙ ap (λ (b : Bool). p least || b) (or_nothing (p t)) ∙ earlier_of p down least t;
      last = λ p up.
          list_any-append p times (t ∷ []) ∙ ap (λ (b : Bool). b || (p t || false)) (is.last p up)
          ∙ ap (λ (b : Bool). p greatest || b) (or_nothing (p t)) ∙ later_of p up greatest t;
    }

abbrev pub time_of : CapturedFrame → ℕ
time_of frame = frame.time

pub times_more : (frames : List CapturedFrame) (i : ℕ) (d : CapturedFrame) (ends more : Option (ℕ × ℕ))
    → more ≡ widened ends (get_or frames i d).time → i < length frames → IsWithin (map time_of (take i frames)) ends
    → IsWithin (map time_of (take (i + 1) frames)) more
times_more frames i d ends more is within so_far =
    subst (λ (o : Option (ℕ × ℕ)). IsWithin (map time_of (take (i + 1) frames)) o) (sym is)
    (subst (λ (ts : List ℕ). IsWithin ts (widened ends (get_or frames i d).time)) (sym (map_more time_of frames i d within))
    (ends_more (map time_of (take i frames)) ends (get_or frames i d).time so_far))

-- ---- one capture

begins_earlier : (lost : Option ℕ) (time a b : ℕ) → a ≤ b → nat_lt (latest lost b) time ≡ true → nat_lt (latest lost a) time ≡ true
begins_earlier (Some lost) time a b within is = lt-ltb (later a lost) time (omega (arith, within, ltb-true (later b lost) time is))
begins_earlier None time a b within is = lt-ltb a time (omega (arith, within, ltb-true b time is))

begun_by : (lost : Option ℕ) (time : ℕ) (times : List ℕ) (ends : Option (ℕ × ℕ)) → IsWithin times ends
    → has_begun lost time ends ≡ list_any (λ t. nat_lt (latest lost t) time) times
begun_by lost time times None is = sym (ap (λ (ts : List ℕ). list_any (λ t. nat_lt (latest lost t) time) ts) is)
begun_by lost time times (Some (least, greatest)) is =
    sym (is.first (λ t. nat_lt (latest lost t) time) (λ a b within so. begins_earlier lost time a b within so))

begun_same : (lost : Option ℕ) (time : ℕ) (capture : Capture) (span : Span) → IsSpanOf capture span
    → is_begun lost time span ≡ (not (is_into capture) || had_begun lost time capture)
begun_same lost time capture span is =
    ap (λ (side : Side). not (is_into_side side) || has_begun lost time span.times) is.side
    ∙ ap (λ (b : Bool). not (is_into_side capture.side) || b) (begun_by lost time (times_of capture) span.times is.times)

lasting_by : (time : ℕ) (times : List ℕ) (ends : Option (ℕ × ℕ)) → IsWithin times ends → lasts_by time ends ≡ list_any (nat_lt time) times
lasting_by time times None is = sym (ap (λ (ts : List ℕ). list_any (nat_lt time) ts) is)
lasting_by time times (Some (least, greatest)) is =
    sym (is.last (nat_lt time) (λ a b within so. lt-ltb time b (omega (arith, within, ltb-true time a so))))

lasting_same : (time : ℕ) (capture : Capture) (span : Span) → IsSpanOf capture span → is_lasting time span ≡ (not (is_into capture) || lasts time capture)
lasting_same time capture span is =
    ap (λ (side : Side). not (is_into_side side) || lasts_by time span.times) is.side
    ∙ ap (λ (b : Bool). not (is_into_side capture.side) || b) (lasting_by time (times_of capture) span.times is.times)

goes_by : (lost time : ℕ) (times : List ℕ) (ends : Option (ℕ × ℕ)) → IsWithin times ends
    → goes_on lost time ends ≡ (list_any (λ t. nat_le t time) times && list_any (λ t. nat_le (later time lost) t) times)
goes_by lost time times None is =
    sym (ap (λ (ts : List ℕ). list_any (λ t. nat_le t time) ts && list_any (λ t. nat_le (later time lost) t) ts) is)
goes_by lost time times (Some (least, greatest)) is =
    sym (ap (λ (b : Bool). b && list_any (λ t. nat_le (later time lost) t) times)
    (is.first (λ t. nat_le t time) (λ a b within so. le-leb a time (omega (arith, within, leb-true b time so))))
    ∙ ap (λ (b : Bool). nat_le least time && b)
    (is.last (λ t. nat_le (later time lost) t) (λ a b within so. le-leb (later time lost) b (omega (arith, within, leb-true (later time lost) a so)))))

going_on_same : (lost time : ℕ) (capture : Capture) (span : Span) → IsSpanOf capture span
    → is_going_on lost time span ≡ (not (is_out_of capture) || covers lost time capture)
going_on_same lost time capture span is =
    ap (λ (side : Side). not (is_out_of_side side) || goes_on lost time span.times) is.side
    ∙ ap (λ (b : Bool). not (is_out_of_side capture.side) || b) (goes_by lost time (times_of capture) span.times is.times)

-- ---- several

any_same : (f : Span → Bool) (g : Capture → Bool) → ((capture : Capture) (span : Span) → IsSpanOf capture span → f span ≡ g capture)
    → (captures : List Capture) (spans : List Span) → AreSpans captures spans → list_any f spans ≡ list_any g captures
any_same f g same [] [] are = refl
any_same f g same [] (span ∷ spans) are = absurd are
any_same f g same (capture ∷ captures) [] are = absurd are
any_same f g same (capture ∷ captures) (span ∷ spans) are =
    ap (λ (b : Bool). b || list_any f spans) (same capture span are.0) ∙ ap (λ (b : Bool). g capture || b) (any_same f g same captures spans are.1)

all_same : (f : Span → Bool) (g : Capture → Bool) → ((capture : Capture) (span : Span) → IsSpanOf capture span → f span ≡ g capture)
    → (captures : List Capture) (spans : List Span) → AreSpans captures spans → list_all f spans ≡ list_all g captures
all_same f g same [] [] are = refl
all_same f g same [] (span ∷ spans) are = absurd are
all_same f g same (capture ∷ captures) [] are = absurd are
all_same f g same (capture ∷ captures) (span ∷ spans) are =
    ap (λ (b : Bool). b && list_all f spans) (same capture span are.0) ∙ ap (λ (b : Bool). g capture && b) (all_same f g same captures spans are.1)

pub early_same : (lost : Option ℕ) (time : ℕ) (captures : List Capture) (spans : List Span) → AreSpans captures spans
    → not (list_any (λ (span : Span). is_into_side span.side) spans && list_all (is_begun lost time) spans) ≡ is_early lost captures time
early_same lost time captures spans are =
    ap (λ (b : Bool). not (b && list_all (is_begun lost time) spans))
    (any_same (λ (span : Span). is_into_side span.side) is_into (λ capture span is. ap is_into_side is.side) captures spans are)
    ∙ ap (λ (b : Bool). not (list_any is_into captures && b))
    (all_same (is_begun lost time) (λ capture. not (is_into capture) || had_begun lost time capture) (begun_same lost time) captures spans are)

pub behind_same : (time : ℕ) (captures : List Capture) (spans : List Span) → AreSpans captures spans
    → not (list_all (is_lasting time) spans) ≡ is_behind captures time
behind_same time captures spans are =
    ap not (all_same (is_lasting time) (λ capture. not (is_into capture) || lasts time capture) (lasting_same time) captures spans are)

pub watched_same : (lost time : ℕ) (captures : List Capture) (spans : List Span) → AreSpans captures spans
    → (list_any (λ (span : Span). is_out_of_side span.side) spans && list_all (is_going_on lost time) spans) ≡ is_watched lost captures time
watched_same lost time captures spans are =
    ap (λ (b : Bool). b && list_all (is_going_on lost time) spans)
    (any_same (λ (span : Span). is_out_of_side span.side) is_out_of (λ capture span is. ap is_out_of_side is.side) captures spans are)
    ∙ ap (λ (b : Bool). list_any is_out_of captures && b)
    (all_same (is_going_on lost time) (λ capture. not (is_out_of capture) || covers lost time capture) (going_on_same lost time) captures spans are)

spans_more : (captures : List Capture) (spans : List Span) (capture : Capture) (span : Span) → AreSpans captures spans → IsSpanOf capture span
    → AreSpans (captures ++ capture ∷ []) (spans ++ span ∷ [])
spans_more [] [] capture span are is = (is, tt)
spans_more [] (s ∷ spans) capture span are is = absurd are
spans_more (c ∷ captures) [] capture span are is = absurd are
spans_more (c ∷ captures) (s ∷ spans) capture span are is = (are.0, spans_more captures spans capture span are.1 is)

pub spans_pushed : (captures : List Capture) (i : ℕ) (d : Capture) (spans more : List Span) (span : Span) → more ≡ spans ++ span ∷ []
    → IsWithin (times_of (get_or captures i d)) span.times → i < length captures → AreSpans (take i captures) spans
    → span.side ≡ (get_or captures i d).side → AreSpans (take (i + 1) captures) more
spans_pushed captures i d spans more span pushed times within are side =
    subst (λ (ss : List Span). AreSpans (take (i + 1) captures) ss) (sym pushed)
    (subst (λ (cs : List Capture). AreSpans cs (spans ++ span ∷ [])) (sym (take_more captures i d within))
    (spans_more (take i captures) spans (get_or captures i d) span are (record { side = side; times = times })))
