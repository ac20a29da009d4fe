use Rattle.std.proofs.Common.{◌≡◌, ◌<◌, ◌≤◌, ◌∙◌, ◌∷◌, [], ℕ, List, true, false, length, ap, arith, subst, sym}
use Rattle.std.proofs.lemmas.Grind.{common_steps}
use Rattle.std.proofs.lemmas.Result.{IfOk-weaker}
use Rattle.bench_history.specs.declared.event.Event.TheVariants.{Entered}
use Rattle.bench_history.specs.declared.extent.Extent.{Extent}
use Rattle.bench_record.specs.Cores.{Core}
use Rattle.bench_record.specs.Index.{core_shown, is_long}
use Rattle.bench_record.specs.Moments.{Sourced}
use Rattle.bench_record.specs.Recorded.{Seen, core_in, extent_within, longest_frame, seen_in, with_events, with_frame, without_number}
use Rattle.bench_record.specs.Walk.{sourced_shown}
use Rattle.bench_record.proofs.Walks.{enter_full, enter_is, enter_unread, same_count, seen_as}
use Rattle.bench_record.proofs.walk.Walk.enter.Goals as goal

-- what is told of a frame by these parts
abbrev told_of : Sourced → ℕ → Seen → Extent → List ℕ → Core → Seen
told_of at port seen extent frame core =
    with_events (seen_in at (Entered port extent frame) ∷ [])
    (with_frame (record { time = at.frame.time; core = core; has_left = false; hidden_before = length seen.hidden }) seen)

pub returns-then-is_unread-clause-seen : goal.returns-then-is_unread-clause-seen
returns-then-is_unread-clause-seen c = λ time seen is long.
    let s = c.args.given.now.settings in
    IfOk-weaker c.pass_unread.result _ _
    (λ done so. seen_as s.lost time _ _ c.pass_unread.new.self
    (enter_unread s (sourced_shown c.args.at.now) c.args.port seen (sym c.is_unread.ensures ∙ c.if-is_unread.true)) so)
    (c.pass_unread.ensures.seen s.lost time (without_number c.args.at.now.frame.time seen) (c.leave_out.ensures.seen s.lost time seen is))

pub returns-in_default-clause-seen : goal.returns-in_default-clause-seen
returns-in_default-clause-seen c = λ time seen is long.
    let s = c.args.given.now.settings in
    let full : 4294967296 ≤ length seen.frames.sent = grind (arith, common_steps, same_count s.lost time seen c.args.self.now is) in
    IfOk-weaker c.pass_unwritable.result _ _
    (λ done so. seen_as s.lost time _ _ c.pass_unwritable.new.self
    (enter_full s (sourced_shown c.args.at.now) c.args.port seen (sym c.is_unread.ensures ∙ c.if-is_unread.false) full) so)
    (c.pass_unwritable.ensures.seen s.lost time (without_number c.args.at.now.frame.time seen) (c.leave_out-in_default.ensures.seen s.lost time seen is))

pub returns-clause-seen : goal.returns-clause-seen
returns-clause-seen c = λ time seen is long.
    let s = c.args.given.now.settings in
    let at = sourced_shown c.args.at.now in
    let same : c.in-Ok.number ≡ length c.args.self.now.sent.items = grind (arith, common_steps) in
    let fits : c.in-Ok.number < 4294967296 = grind (arith, common_steps) in
    let few : length seen.frames.sent < 4294967296 = omega (arith, same, fits, same_count s.lost time seen c.args.self.now is) in
    let own : core_shown c.core_of.result ≡ core_in s at.frame = c.core_of.ensures in
    let entered = c.in_ok-enter_as.ensures.seen s.lost time seen is
    (subst (λ (core : Core). is_long c.args.self.now.shortest core ≡ true) (sym own) long) in
    IfOk-weaker c.add.result _ _
    (λ done so. seen_as s.lost time _ _ c.add.new.self
    (ap (λ (core : Core). told_of at c.args.port seen c.within-extent.result.0 c.within-extent.result.1.now core) own
    ∙ ap (λ (extent : Extent). told_of at c.args.port seen extent c.within-extent.result.1.now (core_in s at.frame)) c.within-extent.ensures.extent
    ∙ ap (λ (frame : List ℕ). told_of at c.args.port seen (extent_within longest_frame at.frame.extent at.frame.bytes.now) frame (core_in s at.frame)) c.within-extent.ensures.frame
    ∙ enter_is s at c.args.port seen (sym c.is_unread.ensures ∙ c.if-is_unread.false) few) so)
    (c.add.ensures.seen s.lost time _ entered)
