-- What a turn takes from a window.
use Rattle.std.proofs.Common.{◌≡◌, ◌≤◌, ℕ, ◌+◌, List, ◌++◌, length, drop, Option, Some, None, arith, subst, sym, ap, ◌∙◌}
use Rattle.std.specs.Prelude.{IfSome}
use Rattle.bench_capture.specs.Formats.{IsTaken, IsWithin, reading_at, recorded_at, with_span}
use Rattle.bench_capture.specs.Reading.{with_frame}
use Rattle.bench_capture.specs.Recorded.{Recorded}
use Rattle.bench_capture.specs.Windows.{held, reading_on}
use Rattle.bench_capture.specs.declared.format.Format.{Format}
use Rattle.bench_capture.specs.declared.span.Span.{Span}
use Rattle.bench_capture.specs.declared.span.Taken.{Taken}
use Rattle.bench_capture.specs.declared.window.Window.{Window}
use Rattle.bench_capture.proofs.Holding.{held_part, held_within}

-- a span behind so many bytes more
abbrev pub shifted : ℕ → Span → Span
shifted start span = record span { start = start + span.start }

-- the frame that was taken stands in the buffer, and what is behind it is left
pub frame_turn : (old new : Format) (window later : Window) (taken : Taken) (span : Span) (rest : List ℕ)
    → IsTaken old (held window) taken new → taken.frame ≡ Some span → held later ≡ drop taken.length (held window) → later.bytes.items ≡ window.bytes.items
    → (reading_on old window rest ≡ with_frame (recorded_at later.bytes.items (shifted window.start span)) (reading_on new later rest))
    × IsWithin later.bytes.items (shifted window.start span)
frame_turn old new window later taken span rest is framed left same =
    let items = window.bytes.items in
    let within : span.start + span.length ≤ length (held window) = by_frame taken.frame framed is.span in
    let part : recorded_at (held window) span ≡ recorded_at items (shifted window.start span) =
    ap (λ (stored : List ℕ). record { time = span.time; original = span.original; bytes = stored })
    (held_part items window.start window.end span.start span.length within) in
    let behind = reading_at new (drop taken.length (held window) ++ rest) in
    let starts : window.start ≤ length items = omega (arith, window.ordered, window.within, window.bytes.ok.0) in (
      is.reads rest
          ∙ ap (λ (frame : Option Span). with_span (held window) frame behind) framed
          ∙ ap (λ (frame : Recorded). with_frame frame behind) (part ∙ ap (λ (bytes : List ℕ). recorded_at bytes (shifted window.start span)) (sym same))
          ∙ ap (λ (bytes : List ℕ). with_frame (recorded_at later.bytes.items (shifted window.start span)) (reading_at new (bytes ++ rest))) (sym left),
      rw same (held_within items window.start window.end span.start span.length starts within),
    )
  where
    by_frame : (frame : Option Span) → frame ≡ Some span → IfSome frame (IsWithin (held window)) → span.start + span.length ≤ length (held window)
    by_frame None none has = absurd (cc)
    by_frame (Some other) some has =
        let one : other ≡ span = cc in
        subst (λ (found : Span). IsWithin (held window) found) one has
