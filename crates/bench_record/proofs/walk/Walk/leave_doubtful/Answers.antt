use Rattle.std.proofs.Common.{◌≡◌, ◌<◌, ◌≤◌, ◌∙◌, ◌++◌, ◌∷◌, [], ℕ, List, length, ap, arith, subst}
use Rattle.std.proofs.lemmas.Grind.{common_steps}
use Rattle.std.proofs.lemmas.Result.{IfOk-weaker}
use Rattle.bench_history.specs.Doubts.{IsDoubted}
use Rattle.bench_history.specs.declared.event.Event.TheVariants.{LeftOneOf}
use Rattle.bench_history.specs.declared.extent.Extent.{Extent}
use Rattle.bench_record.specs.Index.{IsSeen}
use Rattle.bench_record.specs.Recorded.{Seen, extent_within, hide, longest_named, seen_in, with_events}
use Rattle.bench_record.specs.Walk.{sourced_shown}
use Rattle.bench_record.proofs.Candidates.{fewer_named}
use Rattle.bench_record.proofs.Indexes.{fewer_open}
use Rattle.bench_record.proofs.Walks.{doubtful_few, doubtful_many, seen_as}
use Rattle.bench_record.proofs.walk.Walk.leave_doubtful.Goals as goal

pub returns-then-len-gt-MOST_NAMED-clause-seen : goal.returns-then-len-gt-MOST_NAMED-clause-seen
returns-then-len-gt-MOST_NAMED-clause-seen c = λ lost time seen is.
    let many : 900 < length c.args.numbers.items = grind (arith, common_steps) in
    IfOk-weaker c.pass_unwritable.result _ _
    (λ done so. seen_as lost time _ _ c.pass_unwritable.new.self (doubtful_many (sourced_shown c.args.at.now) c.args.gem c.args.numbers.items seen many) so)
    (c.pass_unwritable.ensures.seen lost time (hide c.args.at.now.frame.time seen) (c.in_ok-hide.ensures.seen lost time seen is))

pub returns-clause-seen : goal.returns-clause-seen
returns-clause-seen c = λ lost time seen is.
    let at = sourced_shown c.args.at.now in
    let numbers = c.args.numbers.items in
    let few : length numbers ≤ 900 = grind (arith, common_steps) in
    let told : Seen = record seen { frames = record seen.frames { named = seen.frames.named ++ numbers ∷ [] } } in
    let copied : c.in_ok-from_slice.field-0.items ≡ numbers = grind (arith, common_steps) in
    let marked : IsSeen lost time told (record c.args.self.now { doubts = c.name.new.self }) = record {
      sent = is.sent;
      waiting = fewer_open lost time c.args.self.now.shortest seen.frames told.frames c.args.self.now.waiting (fewer_named lost seen.frames numbers) is.waiting;
      doubts = subst (λ (ns : List ℕ). IsDoubted (seen.frames.named ++ ns ∷ []) c.name.new.self) copied (c.in_ok-name.ensures seen.frames.named is.doubts);
      long = is.long;
      replies = is.replies;
      events = is.events;
      passed = is.passed;
      hidden = is.hidden;
      unnumbered = is.unnumbered;
    } in
    IfOk-weaker c.add.result _ _
    (λ done so. seen_as lost time _ _ c.add.new.self
    (ap (λ (extent : Extent). with_events (seen_in at (LeftOneOf c.args.gem extent (record { frame = c.within-extent.result.1.now; numbers = numbers })) ∷ []) told)
    c.within-extent.ensures.extent
    ∙ ap (λ (frame : List ℕ).
    with_events (seen_in at (LeftOneOf c.args.gem (extent_within longest_named at.frame.extent at.frame.bytes.now) (record { frame = frame; numbers = numbers })) ∷ []) told)
    c.within-extent.ensures.frame
    ∙ doubtful_few at c.args.gem numbers seen few) so)
    (c.add.ensures.seen lost time told marked)
