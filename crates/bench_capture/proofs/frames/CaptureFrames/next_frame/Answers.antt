-- Each turn takes one record or block.
use Rattle.std.proofs.Common.{◌≡◌, ◌-◌, ◌∙◌, List, Option, ℕ, ap, arith, drop, length, length-drop, sym}
use Rattle.bench_capture.specs.Formats.{reading_at, with_span}
use Rattle.bench_capture.specs.Reading.{with_frame}
use Rattle.bench_capture.specs.Recorded.{Recorded}
use Rattle.bench_capture.specs.declared.span.Span.{Span}
use Rattle.bench_capture.proofs.Wholes.{fault_next, whole_taken}
use Rattle.bench_capture.proofs.frames.CaptureFrames.next_frame.Goals as goal

pub returns-in-Err : goal.returns-in-Err
returns-in-Err c =
    fault_next c.loop-self.self-inside.format c.take.new.self c.loop-self.self-inside.rest.now c.in-Err.fault c.args.self.now c.in-Err.ensures.takes c.loop-self.invariant.reading

pub returns-in-Some : goal.returns-in-Some
returns-in-Some c =
    let bytes = c.loop-self.self-inside.rest.now in
    let new = c.take.new.self in
    let later = reading_at new (drop c.in-Ok.taken.length bytes) in
    sym c.loop-self.invariant.reading
    ∙ whole_taken c.loop-self.self-inside.format new bytes c.in-Ok.taken c.in-Ok.ensures.takes
    ∙ ap (λ (frame : Option Span). with_span bytes frame later) c.in-Some.is
    ∙ ap (λ (frame : Recorded). with_frame frame later) (sym c.frame_at.ensures)
    ∙ ap (λ (rest : List ℕ). with_frame c.frame_at.result (reading_at new rest)) (sym c.split_at.ensures.back)

pub loop-self-preserved : goal.loop-self-preserved
loop-self-preserved c =
    let bytes = c.loop-self.self-inside.rest.now in
    let new = c.take.new.self in
    let later = reading_at new (drop c.in-Ok.taken.length bytes) in
    let left : length c.split_at.result.1.now ≡ length bytes - c.in-Ok.taken.length =
    ap length c.split_at.ensures.back ∙ length-drop c.in-Ok.taken.length bytes in
    record {
      reading = ap (λ (rest : List ℕ). reading_at new rest) c.split_at.ensures.back
          ∙ sym (ap (λ (frame : Option Span). with_span bytes frame later) c.in_default.is)
          ∙ sym (whole_taken c.loop-self.self-inside.format new bytes c.in-Ok.taken c.in-Ok.ensures.takes)
          ∙ c.loop-self.invariant.reading;
      few = omega (arith, c.loop-self.invariant.few, c.in-Ok.ensures.takes.counted, c.in-Ok.ensures.takes.within, left);
    }
