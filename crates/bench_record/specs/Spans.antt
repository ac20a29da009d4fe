-- When captures begin and end, as the program keeps it.
use Rattle.std.specs.Prelude.{◌≡◌, ◌≤◌, ◌||◌, ◌&&◌, ℕ, Bool, false, true, not, List, [], ◌∷◌, Option, Some, None, max, min, nat_le, nat_lt}
use Rattle.std.specs.List.{list_any}
use Rattle.bench_record.specs.Matching.{later}
use Rattle.bench_record.specs.Recorded.{is_into_side, is_out_of_side, latest, times_of}
use Rattle.bench_record.specs.declared.captured.Capture.{Capture}
use Rattle.bench_record.specs.declared.spans.Span.{Span}

-- a test that holds of the earlier of two times where it holds of the later one, and the other way round
abbrev pub HoldsEarlier : (ℕ → Bool) → Type 0
HoldsEarlier p = (a b : ℕ) → a ≤ b → p b ≡ true → p a ≡ true

abbrev pub HoldsLater : (ℕ → Bool) → Type 0
HoldsLater p = (a b : ℕ) → a ≤ b → p a ≡ true → p b ≡ true

-- the least and the greatest of times, if there are some: one passes a test if the least does, or the greatest
pub record HasEnds (times : List ℕ) (least greatest : ℕ) : Type 0 where
  pub first : (p : ℕ → Bool) → HoldsEarlier p → list_any p times ≡ p least
  pub last : (p : ℕ → Bool) → HoldsLater p → list_any p times ≡ p greatest

abbrev pub IsWithin : List ℕ → Option (ℕ × ℕ) → Type 0
IsWithin times None = times ≡ []
IsWithin times (Some (least, greatest)) = HasEnds times least greatest

-- those of times and of one more
abbrev pub widened : Option (ℕ × ℕ) → ℕ → Option (ℕ × ℕ)
widened None time = Some (time, time)
widened (Some (least, greatest)) time = Some (min time least, max time greatest)

-- what is kept of a capture
pub record IsSpanOf (capture : Capture) (span : Span) : Type 0 where
  pub side : span.side ≡ capture.side
  pub times : IsWithin (times_of capture) span.times

-- the same of several
abbrev pub AreSpans : List Capture → List Span → Type 0
AreSpans [] [] = Unit {0}
AreSpans [] (span ∷ spans) = ⊥
AreSpans (capture ∷ captures) [] = ⊥
AreSpans (capture ∷ captures) (span ∷ spans) = IsSpanOf capture span × AreSpans captures spans

-- whether a capture had begun when a frame was sent that leaves at a time
abbrev pub has_begun : Option ℕ → ℕ → Option (ℕ × ℕ) → Bool
has_begun lost time (Some (least, greatest)) = nat_lt (latest lost least) time
has_begun lost time None = false

-- that, or it wasn't taken in front of the unit
abbrev pub is_begun : Option ℕ → ℕ → Span → Bool
is_begun lost time span = not (is_into_side span.side) || has_begun lost time span.times

-- whether a capture has a record behind a time
abbrev pub lasts_by : ℕ → Option (ℕ × ℕ) → Bool
lasts_by time (Some (least, greatest)) = nat_lt time greatest
lasts_by time None = false

-- that, or it wasn't taken in front of the unit
abbrev pub is_lasting : ℕ → Span → Bool
is_lasting time span = not (is_into_side span.side) || lasts_by time span.times

-- whether a capture goes on from a time until a frame that was sent then is lost
abbrev pub goes_on : ℕ → ℕ → Option (ℕ × ℕ) → Bool
goes_on lost time (Some (least, greatest)) = nat_le least time && nat_le (later time lost) greatest
goes_on lost time None = false

-- that, or it wasn't taken behind the unit
abbrev pub is_going_on : ℕ → ℕ → Span → Bool
is_going_on lost time span = not (is_out_of_side span.side) || goes_on lost time span.times
