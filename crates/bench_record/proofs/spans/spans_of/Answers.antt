use Rattle.std.proofs.Common.{◌≡◌, ◌<◌, ◌≤◌, List, [], length, arith, refl, subst, rules}
use Rattle.std.proofs.lemmas.Grind.{common_steps}
use Rattle.std.proofs.lemmas.List.{take_all}
use Rattle.bench_record.specs.Spans.{AreSpans}
use Rattle.bench_record.specs.declared.captured.Capture.{Capture}
use Rattle.bench_record.specs.declared.spans.Span.{Span}
use Rattle.bench_record.proofs.Ends.{spans_pushed}
use Rattle.bench_record.proofs.spans.spans_of.Goals as goal

pub loop-capture-init : goal.loop-capture-init
loop-capture-init c =
    let none : [] ≡ c.in_ok-spans.spans.items = search rules in
    subst (λ (spans : List Span). AreSpans [] spans) none tt

pub loop-capture-preserved : goal.loop-capture-preserved
loop-capture-preserved c =
    let within : c.loop-capture.capture-index < length c.args.captures.now = grind (arith, common_steps) in
    spans_pushed c.args.captures.now c.loop-capture.capture-index _ c.loop-capture.spans.items _ _ c.in_ok-push.ensures.items c.times_of.ensures within
    c.loop-capture.invariant refl

pub returns : goal.returns
returns c =
    let past : length c.args.captures.now ≤ c.loop-capture.capture-index = grind (arith, common_steps) in
    subst (λ (captures : List Capture). AreSpans captures c.loop-capture.spans.items) (take_all c.loop-capture.capture-index c.args.captures.now past) c.loop-capture.invariant
