-- The steps of kept frames are those of events.
use Rattle.std.proofs.Common.{ℕ, ◌+◌, ◌<◌, List, length, is_some, ap, sym, subst, ◌∙◌, arith}
use Rattle.std.proofs.lemmas.Option.{slice_get_within}
use Rattle.bench_history.specs.declared.event.Event.{Event}
use Rattle.bench_judge.specs.Explained.{EndedFrame}
use Rattle.bench_judge.specs.Frames.{AreFrames, IsKeptIn, IsKeptOf}
use Rattle.bench_judge.specs.Bounds.{AreStepsUnder, HasStep, IsStepOf, RisesAt}
use Rattle.bench_judge.specs.Judged.{AreSteps, IsRise}
use Rattle.bench_judge.specs.declared.frame.Frame.{Frame}
use Rattle.bench_judge.specs.declared.judgement.Step.{Step}
use Rattle.bench_answers.specs.Ground.{Ground}

module _ (grounds : Ground) (events : List Event) (frames : List Frame) (versions : ℕ → ℕ) (are : AreFrames grounds events frames) where
  rise_of : (n : ℕ) (frame : Frame) (rises : RisesAt frames versions n frame) → IsRise events versions (are.only n frame rises.at rises.ended).f
  rise_of n frame rises =
      let o : IsKeptOf grounds events n frame = are.only n frame rises.at rises.ended in
      record {
        ended = o.is;
        some = subst (λ m. 0 < versions m) (sym o.number) rises.some;
        over = λ g is port lt.
            let k : IsKeptIn grounds events frames g = are.each g is in
            subst (λ m. versions g.number < versions m) (sym o.number)
            (rises.over g.number (omega (arith, o.number, lt)) (record {
              frame = k.frame;
              at = k.at;
              ended = ap is_some k.kept.ended;
              port = k.kept.port ∙ port ∙ sym o.kept.port;
            }));
      }

  rises_of : (f : EndedFrame) (rise : IsRise events versions f) → RisesAt frames versions f.number (are.each f rise.ended).frame
  rises_of f rise =
      let k : IsKeptIn grounds events frames f = are.each f rise.ended in
      record {
        at = k.at;
        ended = ap is_some k.kept.ended;
        some = rise.some;
        over = λ m lt held.
            let o : IsKeptOf grounds events m held.frame = are.only m held.frame held.at held.ended in
            subst (λ n. versions n < versions f.number) o.number
            (rise.over o.f o.is (sym o.kept.port ∙ held.port ∙ k.kept.port) (omega (arith, o.number, lt)));
      }

  pub steps_are : (steps : List Step) → AreStepsUnder frames versions (length frames) steps → AreSteps events versions steps
  steps_are steps under =
      record {
        each = λ k step at.
            let s : IsStepOf frames versions step = (under.each k step at).1 in
            let o : IsKeptOf grounds events step.frame s.frame = are.only step.frame s.frame s.rises.at s.rises.ended in
            record {
              f = o.f;
              rises = rise_of step.frame s.frame s.rises;
              port = s.port ∙ o.kept.port;
              version = s.version ∙ ap versions (sym o.number);
              frame = sym o.number;
              line = s.line ∙ ap (λ n. n + 1) o.kept.sent;
            };
        all = λ f rise.
            let k : IsKeptIn grounds events frames f = are.each f rise.ended in
            let h : HasStep steps f.number = under.all f.number k.frame (slice_get_within frames f.number k.frame k.at) (rises_of f rise) in
            (h.place, h.step, h.at, h.frame);
        ascend = under.ascend;
      }
