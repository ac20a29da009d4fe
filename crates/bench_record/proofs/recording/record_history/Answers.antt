use Rattle.std.proofs.Common.{◌∙◌, ◌++◌, List, map, ap, subst, sym}
use Rattle.std.specs.List.Sorted.{IsNonDecreasingBy}
use Rattle.bench_record.specs.Index.{passed_shown}
use Rattle.bench_record.specs.Moments.{Sourced, Timed, moment_of, moment_of_frame}
use Rattle.bench_record.specs.Order.{in_order}
use Rattle.bench_record.specs.Recorded.{History, PassedOver, Seen, history_seen, losses, nothing_seen, seen_from}
use Rattle.bench_record.specs.Spans.{AreSpans}
use Rattle.bench_record.specs.Walk.{sourced_shown}
use Rattle.bench_record.specs.declared.spans.Span.{Span}
use Rattle.bench_record.specs.declared.walk.Sourced as given
use Rattle.bench_record.proofs.Walks.{times_rise}
use Rattle.bench_record.proofs.recording.record_history.Goals as goal

abbrev history_of : List Timed → PassedOver → History
history_of events passed = record { events = events; passed = passed }

pub walk_over-requires : goal.walk_over-requires
walk_over-requires c = record {
  rising =
      times_rise c.deref-2.result.now
      (subst (λ (xs : List given.Sourced). IsNonDecreasingBy (λ (at : given.Sourced). moment_of_frame (sourced_shown at)) xs) (sym c.deref-2.ensures.value) c.in_ok-frames.ensures.sorted);
  spans = (c.args.captures.now, subst (λ (spans : List Span). AreSpans c.args.captures.now spans) (sym c.deref.ensures.value) c.in_ok-spans.ensures);
}

pub returns : goal.returns
returns c =
    let s = c.args.settings.now in
    let captures = c.args.captures.now in
    let are = subst (λ (spans : List Span). AreSpans captures spans) (sym c.deref.ensures.value) c.in_ok-spans.ensures in
    let walked = c.in_ok-walk.ensures.seen captures are in
    let seen : Seen = seen_from s captures nothing_seen (map sourced_shown c.deref-2.result.now) in
    let frames = ap (λ (xs : List given.Sourced). map sourced_shown xs) c.deref-2.ensures.value ∙ c.in_ok-frames.ensures.frames in
    let events = c.in_ok-put_in_order.ensures ∙ ap (λ (xs : List Timed). in_order moment_of xs) (c.in_ok-events.ensures.events captures walked.0 seen are walked.1) in
    let passed = c.in_ok-events.ensures.passed walked.0 seen walked.1 in
    ap (λ (xs : List Timed). history_of xs (passed_shown c.in_ok-events.passed)) events
    ∙ ap (λ (p : PassedOver). history_of (in_order moment_of (seen.events ++ losses s.lost captures seen.hidden seen.frames)) p) passed
    ∙ ap (λ (xs : List Sourced). history_seen s captures (seen_from s captures nothing_seen xs)) frames
