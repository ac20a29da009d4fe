use Rattle.std.proofs.Common.{◌∷◌, ◌∙◌, [], Option, ap, sym}
use Rattle.std.proofs.lemmas.Result.{IfOk-weaker}
use Rattle.bench_history.specs.declared.event.Event.TheVariants.{Waited}
use Rattle.bench_record.specs.Moments.{Timed}
use Rattle.bench_record.specs.Recorded.{waits, with_events}
use Rattle.std.specs.Prelude.{ℕ, Some, None}
use Rattle.bench_record.proofs.Walks.{no_wait, seen_as}
use Rattle.bench_record.proofs.walk.Walk.add_wait.Goals as goal

abbrev wait_at : ℕ → ℕ → Timed
wait_at time replies = record { time = time; source = None; event = Waited (Some replies) }

pub returns-in-Some-clause-seen : goal.returns-in-Some-clause-seen
returns-in-Some-clause-seen c = λ lost now seen is.
    IfOk-weaker c.add_unseen.result _ _
    (λ done so. seen_as lost now _ _ c.add_unseen.new.self
    (ap (λ time. with_events (wait_at time c.args.replies ∷ []) seen) c.later.ensures
    ∙ ap (λ (wait : Option ℕ). with_events (waits wait c.args.time c.args.replies) seen) (sym c.in-Some.is)) so)
    (c.add_unseen.ensures.seen lost now seen is)

pub returns-in-None-clause-seen : goal.returns-in-None-clause-seen
returns-in-None-clause-seen c = λ lost now seen is.
    seen_as lost now seen _ c.args.self.now (no_wait seen ∙ ap (λ (wait : Option ℕ). with_events (waits wait c.args.time c.args.replies) seen) (sym c.in-None.is)) is
