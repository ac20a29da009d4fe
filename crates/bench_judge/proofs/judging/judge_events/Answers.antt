use Rattle.std.proofs.Common.{rules, ◌-◌, ◌<◌, arith, length, refl}
use Rattle.bench_judge.proofs.Found.{accepted_all, all_explained, base_within_all, compared_all, count_all, frames_all, known_all, frames_sent, event_deviates, walked_known}
use Rattle.bench_judge.specs.Terms.{ground_in, terms_of}
use Rattle.bench_judge.proofs.judging.judge_events.Goals as goal

pub returns-then-walk-events-clause-found : goal.returns-then-walk-events-clause-found
returns-then-walk-events-clause-found g c =
    event_deviates (terms_of c.args.terms.now) c.args.events.now c.in_ok-walk.walk c.in_ok-walk.ensures c.in_ok-wrong_event.field-0 c.in_ok-versions.field-0 c.in-Some.versions c.in-Some.is
    c.in_ok-versions.ensures c.if-walk-events.true c.in_ok-wrong_event.ensures

pub steps-requires : goal.steps-requires
steps-requires g c =
    let small : length c.args.events.now < 18446744073709551616 = search rules in
    record { sent = frames_sent (terms_of c.args.terms.now) c.args.events.now c.in_ok-walk.walk c.in_ok-walk.ensures c.deref-2.result.now c.deref-2.ensures.value small }

pub returns-clause-found : goal.returns-clause-found
returns-clause-found g c =
    let terms = terms_of c.args.terms.now in
    all_explained terms c.args.events.now c.in_ok-walk.walk c.in_ok-walk.ensures c.counts.result c.in_ok-steps.field-0 c.in_ok-versions.field-0 c.in-Some.versions
    c.if-walk-events.false c.in-Some.is c.in_ok-versions.ensures
    (c.counts.ensures (ground_in terms) (accepted_all terms c.args.events.now c.in_ok-walk.walk c.in_ok-walk.ensures (c.len-4.result - c.in_ok-walk.walk.base)
    (omega (arith, c.len-4.ensures, c.in_ok-walk.walk.requests.ok.0)) c.if-walk-events.false))
    c.is_finished.result c.is_finished.ensures c.evidence.result
    (c.evidence.ensures (ground_in terms) (compared_all terms c.args.events.now c.in_ok-walk.walk c.in_ok-walk.ensures c.if-walk-events.false))
    c.in_ok-steps.ensures.none
    c.deref-2.result.now c.deref-3.result.now c.deref-2.ensures.value c.deref-3.ensures.value c.in_ok-steps.ensures.steps

pub counts-requires-clause-known : goal.counts-requires-clause-known
counts-requires-clause-known g c =
    known_all (terms_of c.args.terms.now) c.args.events.now c.in_ok-walk.walk c.in_ok-walk.ensures c.deref.result.now c.deref.ensures.value c.if-walk-events.false

pub doubtful-requires : goal.doubtful-requires
doubtful-requires g c =
    let all = count_all (terms_of c.args.terms.now) c.args.events.now c.in_ok-walk.walk c.in_ok-walk.ensures c.in_ok-walk.walk.frames.items refl c.if-walk-events.false in
    omega (arith, all, c.len-3.ensures, c.in_ok-walk.walk.frames.ok.0)

pub evidence-requires-clause-known : goal.evidence-requires-clause-known
evidence-requires-clause-known g c =
    known_all (terms_of c.args.terms.now) c.args.events.now c.in_ok-walk.walk c.in_ok-walk.ensures c.deref-4.result.now c.deref-4.ensures.value c.if-walk-events.false

pub evidence-requires-clause-frames : goal.evidence-requires-clause-frames
evidence-requires-clause-frames g c = (
  ground_in (terms_of c.args.terms.now),
  frames_all (terms_of c.args.terms.now) c.args.events.now c.in_ok-walk.walk c.in_ok-walk.ensures c.deref-4.result.now c.deref-4.ensures.value c.if-walk-events.false,
)

pub evidence-requires-clause-count : goal.evidence-requires-clause-count
evidence-requires-clause-count g c =
    count_all (terms_of c.args.terms.now) c.args.events.now c.in_ok-walk.walk c.in_ok-walk.ensures c.deref-4.result.now c.deref-4.ensures.value c.if-walk-events.false

pub overflow_sub-accepted : goal.overflow_sub-accepted
overflow_sub-accepted g c =
    let low = base_within_all (terms_of c.args.terms.now) c.args.events.now c.in_ok-walk.walk c.in_ok-walk.ensures in
    omega (arith, low, c.len-4.ensures, c.in_ok-walk.walk.requests.ok.0)

pub returns-then-walk-events-clause-known : goal.returns-then-walk-events-clause-known
returns-then-walk-events-clause-known g c =
    walked_known (terms_of c.args.terms.now) c.args.events.now c.in_ok-walk.walk c.in_ok-walk.ensures c.in_ok-versions.field-0 c.in-Some.versions c.in-Some.is c.in_ok-versions.ensures

pub returns-clause-known : goal.returns-clause-known
returns-clause-known g c =
    walked_known (terms_of c.args.terms.now) c.args.events.now c.in_ok-walk.walk c.in_ok-walk.ensures c.in_ok-versions.field-0 c.in-Some.versions c.in-Some.is c.in_ok-versions.ensures
