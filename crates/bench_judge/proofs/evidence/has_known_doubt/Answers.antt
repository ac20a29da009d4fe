use Rattle.std.proofs.Common.{◌∙◌, ◌≡◌, Some, arith, length, refl, slice_get, sym, true≢false}
use Rattle.std.proofs.lemmas.Option.{slice_get_read}
use Rattle.bench_judge.proofs.WasJudged.{no_doubt_at_all, no_doubt_here}
use Rattle.bench_judge.proofs.evidence.has_known_doubt.Goals as goal

pub loop-event-init : goal.loop-event-init
loop-event-init c = λ i event less at doubt. absurd (omega (arith, less))

pub loop-event-preserved : goal.loop-event-preserved
loop-event-preserved c =
    let events = c.args.events.now in
    let place = c.loop-event.event-index in
    let event = c.event-item.result in
    let at : slice_get events place ≡ Some event = slice_get_read events (length events) place event refl c.loop-event-test.true c.event-item.is in
    no_doubt_here events place event at (λ doubt. true≢false (sym ((c.is_known_doubt.ensures events c.requires).1 doubt) ∙ c.if-is_known_doubt.false)) c.loop-event.invariant

pub returns-then-is_known_doubt : goal.returns-then-is_known_doubt
returns-then-is_known_doubt c =
    let events = c.args.events.now in
    let place = c.loop-event.event-index in
    let event = c.event-item.result in
    let at : slice_get events place ≡ Some event = slice_get_read events (length events) place event refl c.loop-event-test.true c.event-item.is in (
      λ yes. (place, event, at, (c.is_known_doubt.ensures events c.requires).0 c.if-is_known_doubt.true),
      λ judged. refl,
    )

pub returns : goal.returns
returns c = (
  λ yes. absurd (true≢false (sym yes)),
  λ judged. absurd (no_doubt_at_all c.args.events.now c.loop-event.event-index c.loop-event-test.false c.loop-event.invariant judged),
)
