use Rattle.std.proofs.Common.{◌≡◌, ◌∙◌, ◌∷◌, ◌||◌, [], ℕ, List, Option, ap, sym}
use Rattle.std.proofs.lemmas.Result.{IfOk-weaker}
use Rattle.bench_history.specs.declared.event.Event.TheVariants.{Strayed}
use Rattle.bench_history.specs.declared.extent.Extent.{Extent}
use Rattle.bench_record.specs.Recorded.{extent_within, is_early, may_be_unnumbered, longest_frame, seen_in, with_events}
use Rattle.bench_record.specs.Walk.{sourced_shown}
use Rattle.bench_record.proofs.Walks.{is_another, seen_as, unmatched_early, unmatched_stray}
use Rattle.bench_record.proofs.walk.Walk.leave_unmatched.Goals as goal

pub returns-then-may_be_another-clause-seen : goal.returns-then-may_be_another-clause-seen
returns-then-may_be_another-clause-seen c = λ captures time seen are is.
    let s = c.args.given.now.settings in
    let another : is_another s captures seen c.args.at.now.frame.time ≡ c.may_be_another.result =
    ap (λ (sent : Option ℕ). is_early s.lost captures c.args.at.now.frame.time || may_be_unnumbered s.lost sent c.args.at.now.frame.time) (sym is.unnumbered)
    ∙ sym (c.may_be_another.ensures captures are) in
    IfOk-weaker c.pass_early.result _ _
    (λ done so. seen_as s.lost time _ _ c.pass_early.new.self
    (unmatched_early s captures (sourced_shown c.args.at.now) c.args.gem seen (another ∙ c.if-may_be_another.true)) so)
    (c.pass_early.ensures.seen s.lost time seen is)

pub returns-clause-seen : goal.returns-clause-seen
returns-clause-seen c = λ captures time seen are is.
    let s = c.args.given.now.settings in
    let at = sourced_shown c.args.at.now in
    let another : is_another s captures seen at.frame.time ≡ c.may_be_another.result =
    ap (λ (sent : Option ℕ). is_early s.lost captures at.frame.time || may_be_unnumbered s.lost sent at.frame.time) (sym is.unnumbered)
    ∙ sym (c.may_be_another.ensures captures are) in
    IfOk-weaker c.add.result _ _
    (λ done so. seen_as s.lost time _ _ c.add.new.self
    (ap (λ (extent : Extent). with_events (seen_in at (Strayed c.args.gem extent c.within-extent.result.1.now) ∷ []) seen) c.within-extent.ensures.extent
    ∙ ap (λ (frame : List ℕ). with_events (seen_in at (Strayed c.args.gem (extent_within longest_frame at.frame.extent at.frame.bytes.now) frame) ∷ []) seen) c.within-extent.ensures.frame
    ∙ unmatched_stray s captures at c.args.gem seen (another ∙ c.if-may_be_another.false)) so)
    (c.add.ensures.seen s.lost time seen is)
