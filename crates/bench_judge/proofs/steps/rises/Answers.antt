use Rattle.std.proofs.Common.{◌≡◌, ◌<◌, ◌≤◌, ◌+◌, ◌-◌, ◌^◌, ◌++◌, [], ◌∷◌, ◌∙◌, ap₂, set, true≢false, Vec, Global, Fits, w64, ap, arith, subst, sym, true, false, List, ℕ, None, get_or, length, slice_index}
use Rattle.std.specs.Prelude.{is_some, slice_get, Some}
use Rattle.std.proofs.lemmas.Grind.{get_or_default_zero}
use Rattle.std.proofs.lemmas.Option.{slice_get-get_or}
use Rattle.bench_judge.specs.Bounds.{AreStepsUnder}
use Rattle.bench_judge.specs.Rising.{AreGreatest}
use Rattle.bench_judge.specs.declared.frame.Frame.{Frame}
use Rattle.bench_judge.specs.declared.judgement.Step.{Step}
use Rattle.bench_judge.proofs.Risen.{greatest_grows, greatest_stays, none_greatest, none_steps, steps_grow, steps_stay}
use Rattle.bench_judge.proofs.steps.rises.Goals.{then-is_some+then-version-index+in_ok-push, else-is_some, else-is_some-via-then-is_some+else-version-index, else-is_some-via-else-is_some}
use Rattle.bench_judge.proofs.steps.rises.Goals as goal

-- what a read past the end would give
abbrev no_frame : Frame
no_frame = record { sent = 0; ended = None; port = 0; is_enough = false; least = 0; most = 0 }

pub loop-number-init : goal.loop-number-init
loop-number-init c =
    let frames = c.args.frames.now in
    let versions : ℕ → ℕ = λ m. slice_index c.args.versions.now m - c.args.base in
    record {
      greatest = none_greatest frames versions c.in_ok-greatest.greatest.items (c.in_ok-greatest.ensures.items_if_clones_equal (λ y is. is));
      steps = subst (AreStepsUnder frames versions 0) (sym c.new-steps.ensures.items) (none_steps frames versions);
    }

read_at : (xs : List ℕ) (i j x : ℕ) → i ≡ j → j < length xs → get_or xs i x ≡ slice_index xs j
read_at xs i j x same within = ap (λ k. get_or xs k x) same ∙ get_or_default_zero xs j x within

fits_of : (n : ℕ) → n < 2 ^ 64 → Fits w64 n
fits_of n lt = omega (arith, lt)

pub overflow_add-frame : goal.overflow_add-frame
overflow_add-frame c =
    let frames = c.args.frames.now in
    let n = c.loop-number.number in
    let at = slice_get-get_or frames n no_frame c.loop-number-test.true in
    fits_of _ (c.requires n (get_or frames n no_frame) at (sym c.is_some.ensures ∙ c.if-is_some.true))

pub loop-number-preserved : goal.loop-number-preserved
loop-number-preserved c =
    let frames = c.args.frames.now in
    let n = c.loop-number.number in
    let frame = get_or frames n no_frame in
    let versions : ℕ → ℕ = λ m. slice_index c.args.versions.now m - c.args.base in
    let greatest = c.loop-number.greatest.items in
    let had : c.saturating_sub-version.result ≡ versions n = c.saturating_sub-version.ensures ∙ ap (λ v. v - c.args.base) c.version_at.ensures in
    let old : AreGreatest frames versions n greatest = c.loop-number.invariant.greatest in
    let at : slice_get frames n ≡ Some frame = slice_get-get_or frames n no_frame c.loop-number-test.true in
    let fits : frame.port < 65536 = search in
    elim c.if-is_some.branch [
      | then-is_some+then-version-index+in_ok-push w ↦
          let ended : is_some frame.ended ≡ true = sym c.is_some.ensures ∙ w.if-is_some.true in
          let read : w.index.result.now ≡ slice_index greatest frame.port = w.index.ensures ∙ read_at greatest c.from-port.result frame.port w.index.result.now c.from-port.ensures (omega (arith, fits, old.ports)) in
          let high : slice_index greatest frame.port < versions n = omega (arith, w.if-version-index.true, read, had) in
          record {
            greatest = subst (AreGreatest frames versions (n + 1)) (sym (ap (λ (v : Vec ℕ Global). v.items) w.greatest-is ∙ ap₂ (λ p x. set greatest p x) c.from-port.ensures had)) (greatest_grows frames versions n greatest old frame at fits ended high);
            steps = subst (AreStepsUnder frames versions (n + 1)) (sym (ap (λ (v : Vec Step Global). v.items) w.steps-is ∙ w.in_ok-push.ensures.items
                ∙ ap (λ x. c.loop-number.steps.items ++ (record { port = frame.port; version = x; frame = n; line = frame.sent + 1 }) ∷ []) had)) (steps_grow frames versions n greatest old frame at fits ended high c.loop-number.steps.items c.loop-number.invariant.steps);
          }
      | else-is_some w ↦
          let low : is_some frame.ended ≡ true → versions n ≤ slice_index greatest frame.port = λ ended.
          elim w.else-is_some.branch [
            | else-is_some-via-then-is_some+else-version-index w' ↦
                let read : w'.index.result.now ≡ slice_index greatest frame.port =
                w'.index.ensures ∙ read_at greatest c.from-port.result frame.port w'.index.result.now c.from-port.ensures (omega (arith, fits, old.ports)) in
                omega (arith, w'.if-version-index.false, read, had)
            | else-is_some-via-else-is_some w' ↦ absurd (true≢false (sym (c.is_some.ensures ∙ ended) ∙ w'.if-is_some.false))
          ] in
          record {
            greatest = subst (AreGreatest frames versions (n + 1)) (sym (ap (λ (v : Vec ℕ Global). v.items) w.greatest-is)) (greatest_stays frames versions n greatest old frame at fits low);
            steps = subst (AreStepsUnder frames versions (n + 1)) (sym (ap (λ (v : Vec Step Global). v.items) w.steps-is)) (steps_stay frames versions n greatest old frame at fits low c.loop-number.steps.items c.loop-number.invariant.steps);
          }
    ]

pub returns : goal.returns
returns c =
    let same : c.loop-number.number ≡ length c.args.frames.now = omega (arith, c.loop-number-test.false, c.loop-number.auto.number-end) in
    subst (λ k. AreStepsUnder c.args.frames.now (λ m. slice_index c.args.versions.now m - c.args.base) k c.loop-number.steps.items) same c.loop-number.invariant.steps
