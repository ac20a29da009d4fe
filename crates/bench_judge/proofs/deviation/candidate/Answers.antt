use Rattle.std.proofs.Common.{rules, ◌<◌, ap, arith, length}
use Rattle.bench_judge.proofs.Candidates.{candidate_is, kept, sent_is, sent_within}
use Rattle.bench_judge.proofs.Found.{base_within_all}
use Rattle.bench_judge.proofs.deviation.candidate.Goals as goal

pub index-frame-requires : goal.index-frame-requires
index-frame-requires c = omega (arith, c.requires.known, c.args.walk.now.frames.ok)

pub bounds-events-frame : goal.bounds-events-frame
bounds-events-frame c =
    let within = sent_within c.requires.walked.0 c.args.events.now c.args.walk.now c.requires.walked.1 c.args.number c.index-frame.result.now _ c.requires.known c.index-frame.ensures in
    omega (arith, within)

pub offset_bounds-events-frame : goal.offset_bounds-events-frame
offset_bounds-events-frame c =
    let within : c.index-frame.result.now.sent < length c.args.events.now =
    sent_within c.requires.walked.0 c.args.events.now c.args.walk.now c.requires.walked.1 c.args.number c.index-frame.result.now _ c.requires.known c.index-frame.ensures in
    search rules

pub sent_by-extent-requires : goal.sent_by-extent-requires
sent_by-extent-requires c =
    let its = kept c.requires.walked.0 c.args.events.now c.args.walk.now c.requires.walked.1 c.args.number c.index-frame.result.now _ c.requires.known c.index-frame.ensures in (
      c.index-frame.result.now.port,
      its.extent,
      its.bytes,
      sent_is c.requires.walked.0 c.args.events.now c.args.walk.now c.requires.walked.1 c.args.number c.index-frame.result.now _ c.requires.known c.index-frame.ensures c.index-events-frame.result
          c.index-events-frame.is,
    )

pub overflow_add-result : goal.overflow_add-result
overflow_add-result c =
    let within : c.index-frame.result.now.sent < length c.args.events.now =
    sent_within c.requires.walked.0 c.args.events.now c.args.walk.now c.requires.walked.1 c.args.number c.index-frame.result.now _ c.requires.known c.index-frame.ensures in
    let small : length c.args.events.now < 18446744073709551616 = search rules in
    omega (arith, within, small)

pub runs-requires : goal.runs-requires
runs-requires c =
    let low = base_within_all c.requires.walked.0 c.args.events.now c.args.walk.now c.requires.walked.1 in
    let same = ap (λ l. length l) c.deref.ensures.value in
    omega (arith, low, same, c.len.ensures, c.saturating_sub-to.ensures, c.args.walk.now.requests.ok.0)

pub returns-clause-is : goal.returns-clause-is
returns-clause-is c = λ terms known.
    let its = kept terms c.args.events.now c.args.walk.now known c.args.number c.index-frame.result.now _ c.requires.known c.index-frame.ensures in
    let entered = sent_is terms c.args.events.now c.args.walk.now known c.args.number c.index-frame.result.now _ c.requires.known c.index-frame.ensures c.index-events-frame.result
    c.index-events-frame.is in
    let both = c.sent_by-extent.ensures c.index-frame.result.now.port its.extent its.bytes entered in
    candidate_is terms c.args.events.now c.args.walk.now known c.args.number c.index-frame.result.now _ c.requires.known c.index-frame.ensures
    (c.sent_by-extent.result).0 (c.sent_by-extent.result).1 c.saturating_sub-from.result c.saturating_sub-to.result c.in_ok-runs.runs (ap (λ r. r.0) both) (ap (λ r. r.1) both)
    c.saturating_sub-from.ensures (omega (arith, c.len.ensures, c.saturating_sub-to.ensures, c.args.walk.now.requests.ok.0)) c.deref.result.now c.read-bytes.result.now c.deref.ensures.value c.read-bytes.ensures c.in_ok-runs.ensures
