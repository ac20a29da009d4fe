use Rattle.std.proofs.Common.{rules, ◌≡◌, ◌<◌, ◌∙◌, ap, arith, length, map, slice_index, subst, sym}
use Rattle.bench_history.specs.declared.event.Event.TheVariants.{Entered}
use Rattle.bench_judge.specs.Cut.{IsFitted, Suits, until}
use Rattle.bench_judge.specs.Frames.{Fits}
use Rattle.bench_judge.specs.Judged.{IsEndAs}
use Rattle.bench_judge.specs.Known.{AreHeld}
use Rattle.bench_judge.proofs.Held.{held_until}
use Rattle.bench_judge.proofs.Endings.{bounded, choice_before, cut_long, ends, event_is, f, frame_is, most_left, most_within, not_none, number_is, number_within, sent_at, sent_within, wrong_frame_by}
use Rattle.bench_judge.proofs.Found.{base_within_all}
use Rattle.bench_judge.proofs.Lists.{read_is}
use Rattle.bench_judge.specs.Terms.{terms_of}
use Rattle.bench_judge.proofs.deviation.wrong_frame.Goals as goal

pub ended_by-number-requires : goal.ended_by-number-requires
ended_by-number-requires c =
    ends (terms_of c.args.terms.now) c.args.events.now c.args.walk.now c.args.place c.requires.sound c.requires.walked c.requires.within c.requires.turn
    c.index-events-place.result c.index-events-place.is

pub index-requires : goal.index-requires
index-requires c =
    let number = number_is (terms_of c.args.terms.now) c.args.events.now c.args.walk.now c.args.place c.requires.sound c.requires.walked c.requires.within c.requires.turn
    c.index-events-place.result c.ended_by-number.result c.index-events-place.is c.ended_by-number.ensures in
    let under = number_within (terms_of c.args.terms.now) c.args.events.now c.args.walk.now c.args.place c.requires.sound c.requires.walked c.requires.within c.requires.turn
    c.ended_by-number.result number in
    omega (arith, under, c.args.walk.now.frames.ok)

pub versions_of-requires-clause-within : goal.versions_of-requires-clause-within
versions_of-requires-clause-within c =
    bounded (terms_of c.args.terms.now) c.args.events.now c.args.walk.now c.args.place c.requires.sound c.requires.walked c.requires.within c.requires.turn
    c.deref-2.result.now c.deref-3.result.now c.deref-2.ensures.value (c.deref-3.ensures.value ∙ c.in_ok-frames.ensures ∙ ap (map (until c.args.place)) c.deref.ensures.value)

pub unreachable-requires : goal.unreachable-requires
unreachable-requires c =
    not_none (terms_of c.args.terms.now) c.args.events.now c.args.walk.now c.args.place c.requires.sound c.requires.walked c.requires.within c.requires.turn
    c.deref-2.result.now c.deref-3.result.now c.deref-2.ensures.value (c.deref-3.ensures.value ∙ c.in_ok-frames.ensures ∙ ap (map (until c.args.place)) c.deref.ensures.value)
    (subst (IsFitted c.args.terms.now.settings.padded c.args.terms.now.settings.unordered c.args.events.now c.deref-2.result.now c.deref-3.result.now) c.in_default.is c.in_ok-versions.ensures)

pub at_least-at_least-requires : goal.at_least-at_least-requires
at_least-at_least-requires c =
    let number = number_is (terms_of c.args.terms.now) c.args.events.now c.args.walk.now c.args.place c.requires.sound c.requires.walked c.requires.within c.requires.turn
    c.index-events-place.result c.ended_by-number.result c.index-events-place.is c.ended_by-number.ensures in
    cut_long (terms_of c.args.terms.now) c.args.events.now c.args.walk.now c.args.place c.requires.sound c.requires.walked c.requires.within c.requires.turn
    c.deref-2.result.now c.deref-3.result.now c.deref-2.ensures.value (c.deref-3.ensures.value ∙ c.in_ok-frames.ensures ∙ ap (map (until c.args.place)) c.deref.ensures.value) c.ended_by-number.result number

pub at_most-requires-clause-number : goal.at_most-requires-clause-number
at_most-requires-clause-number c =
    let number = number_is (terms_of c.args.terms.now) c.args.events.now c.args.walk.now c.args.place c.requires.sound c.requires.walked c.requires.within c.requires.turn
    c.index-events-place.result c.ended_by-number.result c.index-events-place.is c.ended_by-number.ensures in
    cut_long (terms_of c.args.terms.now) c.args.events.now c.args.walk.now c.args.place c.requires.sound c.requires.walked c.requires.within c.requires.turn
    c.deref-2.result.now c.deref-3.result.now c.deref-2.ensures.value (c.deref-3.ensures.value ∙ c.in_ok-frames.ensures ∙ ap (map (until c.args.place)) c.deref.ensures.value) c.ended_by-number.result number

pub at_most-requires-clause-within : goal.at_most-requires-clause-within
at_most-requires-clause-within c =
    bounded (terms_of c.args.terms.now) c.args.events.now c.args.walk.now c.args.place c.requires.sound c.requires.walked c.requires.within c.requires.turn
    c.deref-2.result.now c.deref-3.result.now c.deref-2.ensures.value (c.deref-3.ensures.value ∙ c.in_ok-frames.ensures ∙ ap (map (until c.args.place)) c.deref.ensures.value)

pub bounds-events-frame : goal.bounds-events-frame
bounds-events-frame c =
    let number = number_is (terms_of c.args.terms.now) c.args.events.now c.args.walk.now c.args.place c.requires.sound c.requires.walked c.requires.within c.requires.turn
    c.index-events-place.result c.ended_by-number.result c.index-events-place.is c.ended_by-number.ensures in
    let frame = frame_is (terms_of c.args.terms.now) c.args.events.now c.args.walk.now c.args.place c.requires.sound c.requires.walked c.requires.within c.requires.turn
    c.ended_by-number.result c.index.result.now _ number c.index.ensures in
    let before = sent_within (terms_of c.args.terms.now) c.args.events.now c.args.walk.now c.args.place c.requires.sound c.requires.walked c.requires.within c.requires.turn
    c.index.result.now frame in
    omega (arith, before, c.requires.within, c.requires.walked.within)

pub sent_by-extent-requires : goal.sent_by-extent-requires
sent_by-extent-requires c =
    let number = number_is (terms_of c.args.terms.now) c.args.events.now c.args.walk.now c.args.place c.requires.sound c.requires.walked c.requires.within c.requires.turn
    c.index-events-place.result c.ended_by-number.result c.index-events-place.is c.ended_by-number.ensures in
    let frame = frame_is (terms_of c.args.terms.now) c.args.events.now c.args.walk.now c.args.place c.requires.sound c.requires.walked c.requires.within c.requires.turn
    c.ended_by-number.result c.index.result.now _ number c.index.ensures in
    let its = f (terms_of c.args.terms.now) c.args.events.now c.args.walk.now c.args.place c.requires.sound c.requires.walked c.requires.within c.requires.turn in (
      its.port,
      its.extent,
      its.bytes,
      read_is c.args.events.now c.index.result.now.sent c.index-events-frame.result (Entered its.port its.extent its.bytes) c.index-events-frame.is
          (sent_at (terms_of c.args.terms.now) c.args.events.now c.args.walk.now c.args.place c.requires.sound c.requires.walked c.requires.within c.requires.turn c.index.result.now frame),
    )

pub runs-requires : goal.runs-requires
runs-requires c =
    let number = number_is (terms_of c.args.terms.now) c.args.events.now c.args.walk.now c.args.place c.requires.sound c.requires.walked c.requires.within c.requires.turn
    c.index-events-place.result c.ended_by-number.result c.index-events-place.is c.ended_by-number.ensures in
    let frame = frame_is (terms_of c.args.terms.now) c.args.events.now c.args.walk.now c.args.place c.requires.sound c.requires.walked c.requires.within c.requires.turn
    c.ended_by-number.result c.index.result.now _ number c.index.ensures in
    let most = most_within (terms_of c.args.terms.now) c.args.events.now c.args.walk.now c.args.place c.requires.sound c.requires.walked c.requires.within c.requires.turn
    c.deref-2.result.now c.deref-3.result.now c.deref-2.ensures.value (c.deref-3.ensures.value ∙ c.in_ok-frames.ensures ∙ ap (map (until c.args.place)) c.deref.ensures.value) c.index.result.now frame in
    let left = most_left c.args.terms.now.settings.padded c.args.terms.now.settings.unordered c.args.events.now c.deref-2.result.now c.deref-3.result.now c.index.result.now.port c.ended_by-number.result c.index.result.now.most
    c.in_ok-at_most.at_most c.in_ok-at_most.ensures in
    let same = ap (λ l. length l) (c.deref-6.ensures.value ∙ sym c.deref-2.ensures.value) in
    let low = base_within_all (terms_of c.args.terms.now) c.args.events.now c.args.walk.now c.requires.walked in
    let all = ap (λ l. length l) c.deref-6.ensures.value in
    omega (arith, most, left, same, low, all, c.saturating_sub-to.ensures)

pub overflow_add-wrong : goal.overflow_add-wrong
overflow_add-wrong c =
    let number = number_is (terms_of c.args.terms.now) c.args.events.now c.args.walk.now c.args.place c.requires.sound c.requires.walked c.requires.within c.requires.turn
    c.index-events-place.result c.ended_by-number.result c.index-events-place.is c.ended_by-number.ensures in
    let frame = frame_is (terms_of c.args.terms.now) c.args.events.now c.args.walk.now c.args.place c.requires.sound c.requires.walked c.requires.within c.requires.turn
    c.ended_by-number.result c.index.result.now _ number c.index.ensures in
    let before = sent_within (terms_of c.args.terms.now) c.args.events.now c.args.walk.now c.args.place c.requires.sound c.requires.walked c.requires.within c.requires.turn
    c.index.result.now frame in
    omega (arith, before, c.ranges.place.fits)

pub offset_bounds-events-frame : goal.offset_bounds-events-frame
offset_bounds-events-frame c =
    let number = number_is (terms_of c.args.terms.now) c.args.events.now c.args.walk.now c.args.place c.requires.sound c.requires.walked c.requires.within c.requires.turn
    c.index-events-place.result c.ended_by-number.result c.index-events-place.is c.ended_by-number.ensures in
    let frame = frame_is (terms_of c.args.terms.now) c.args.events.now c.args.walk.now c.args.place c.requires.sound c.requires.walked c.requires.within c.requires.turn
    c.ended_by-number.result c.index.result.now _ number c.index.ensures in
    let before : c.index.result.now.sent < c.args.place = sent_within (terms_of c.args.terms.now) c.args.events.now c.args.walk.now c.args.place c.requires.sound c.requires.walked c.requires.within c.requires.turn
    c.index.result.now frame in
    let under : c.index.result.now.sent < length c.args.events.now = omega (arith, before, c.requires.within, c.requires.walked.within) in
    search rules

pub returns-clause-frame : goal.returns-clause-frame
returns-clause-frame c =
    let number = number_is (terms_of c.args.terms.now) c.args.events.now c.args.walk.now c.args.place c.requires.sound c.requires.walked c.requires.within c.requires.turn
    c.index-events-place.result c.ended_by-number.result c.index-events-place.is c.ended_by-number.ensures in
    let frame = frame_is (terms_of c.args.terms.now) c.args.events.now c.args.walk.now c.args.place c.requires.sound c.requires.walked c.requires.within c.requires.turn
    c.ended_by-number.result c.index.result.now _ number c.index.ensures in
    let its = f (terms_of c.args.terms.now) c.args.events.now c.args.walk.now c.args.place c.requires.sound c.requires.walked c.requires.within c.requires.turn in
    let seen : c.index-events-place-2.result ≡ its.seen = event_is (terms_of c.args.terms.now) c.args.events.now c.args.walk.now c.args.place c.requires.sound c.requires.walked c.requires.within c.requires.turn
    c.index-events-place-2.result c.index-events-place-2.is in
    let entered = sent_at (terms_of c.args.terms.now) c.args.events.now c.args.walk.now c.args.place c.requires.sound c.requires.walked c.requires.within c.requires.turn c.index.result.now frame in
    let read = read_is c.args.events.now c.index.result.now.sent c.index-events-frame.result (Entered its.port its.extent its.bytes) c.index-events-frame.is entered in
    wrong_frame_by (terms_of c.args.terms.now) c.args.events.now c.args.walk.now c.args.place c.requires.sound c.requires.walked c.requires.within c.requires.turn
    c.deref-2.result.now c.deref-3.result.now c.deref-2.ensures.value (c.deref-3.ensures.value ∙ c.in_ok-frames.ensures ∙ ap (map (until c.args.place)) c.deref.ensures.value)
    c.ended_by-number.result c.index.result.now c.at_least-at_least.result c.in_ok-at_most.at_most c.saturating_sub-from.result c.saturating_sub-to.result (c.sent_by-extent.result).0 (c.sent_by-extent.result).1 c.end_of.result c.in_ok-runs.runs number frame
    c.deref-2.result.now c.deref-3.result.now c.in_ok-versions.field-0 c.in-Some.versions
    (c.deref-2.ensures.value ∙ sym c.deref-2.ensures.value) (c.deref-3.ensures.value ∙ sym c.deref-3.ensures.value) c.in-Some.is c.in_ok-versions.ensures
    c.deref-4.result.now c.deref-4.ensures.value c.at_least-at_least.ensures c.in_ok-at_most.ensures
    (ap (λ r. r.0) (c.sent_by-extent.ensures its.port its.extent its.bytes read)) (ap (λ r. r.1) (c.sent_by-extent.ensures its.port its.extent its.bytes read)) (subst (λ e. IsEndAs e c.end_of.result) seen c.end_of.ensures)
    c.saturating_sub-from.ensures c.saturating_sub-to.ensures
    c.deref-6.result.now c.read-bytes.result.now (c.deref-6.ensures.value ∙ sym c.deref-2.ensures.value) c.read-bytes.ensures c.in_ok-runs.ensures

pub at_most-requires-clause-fits : goal.at_most-requires-clause-fits
at_most-requires-clause-fits c =
    let suits : Suits c.args.terms.now.settings.padded c.args.terms.now.settings.unordered c.args.events.now c.deref-2.result.now c.deref-3.result.now (slice_index c.in-Some.versions.items) =
    subst (IsFitted c.args.terms.now.settings.padded c.args.terms.now.settings.unordered c.args.events.now c.deref-2.result.now c.deref-3.result.now) c.in-Some.is c.in_ok-versions.ensures in
    subst (λ l. Fits c.args.terms.now.settings.padded c.args.terms.now.settings.unordered c.args.events.now c.deref-2.result.now c.deref-3.result.now (slice_index l)) (sym c.deref-5.ensures.value) suits.0

pub returns-clause-versions : goal.returns-clause-versions
returns-clause-versions c =
    choice_before (terms_of c.args.terms.now) c.args.events.now c.args.walk.now c.args.place c.requires.sound c.requires.walked c.requires.within c.requires.turn
    c.deref-2.result.now c.deref-3.result.now c.deref-2.ensures.value (c.deref-3.ensures.value ∙ c.in_ok-frames.ensures ∙ ap (map (until c.args.place)) c.deref.ensures.value)
    (slice_index c.in-Some.versions.items)
    (subst (IsFitted c.args.terms.now.settings.padded c.args.terms.now.settings.unordered c.args.events.now c.deref-2.result.now c.deref-3.result.now) c.in-Some.is c.in_ok-versions.ensures)

pub versions_of-requires-clause-known : goal.versions_of-requires-clause-known
versions_of-requires-clause-known c =
    let walk = c.args.walk.now in
    let terms = terms_of c.args.terms.now in
    subst (λ requests. AreHeld terms.settings.padded c.args.events.now requests c.deref-3.result.now c.args.known.now) (sym c.deref-2.ensures.value)
    (subst (λ frames. AreHeld terms.settings.padded c.args.events.now walk.requests.items frames c.args.known.now)
    (sym (c.deref-3.ensures.value ∙ c.in_ok-frames.ensures ∙ ap (map (until c.args.place)) c.deref.ensures.value))
    (held_until terms c.args.events.now walk c.requires.walked c.args.known.now c.requires.known c.args.place))
