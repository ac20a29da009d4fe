-- A frame that was forwarded may have left by the version that its lane held.
use Rattle.std.proofs.Common.{◌≡◌, Bool, true, ℕ, List, take, Some, slice_get, sym, ap, subst, ◌∙◌}
use Rattle.mib_state.specs.After.{after}
use Rattle.frame_meaning.specs.Meaning.{meaning}
use Rattle.frame_meaning.specs.declared.verdict.Verdict.{Verdict}
use Rattle.plan_publish.specs.World.{Decided, Event as MachineEvent, Forward}
use Rattle.plan_publish.specs.Interleavings.{accepted_in, entered_with}
use Rattle.plan_publish.proofs.Interleavings.{verdicts_are_of_a_prefix}
use Rattle.bench_history.specs.declared.event.Event.TheVariants.{Entered}
use Rattle.bench_history.specs.declared.extent.Extent.TheVariants.{Whole}
use Rattle.bench_sight.specs.Sight.{IsSeenAs, is_enough}
use Rattle.bench_answers.specs.Ground.{Ground}
use Rattle.bench_answers.specs.Asked.{version}
use Rattle.bench_answers.specs.declared.standing.Standing.{Standing}
use Rattle.bench_judge.specs.Explained.{EndedFrame, IsVersionOf}
use Rattle.bench_law.specs.Steps.{Step, happened, shown}
use Rattle.bench_law.specs.Observation.{IsForwarded}
use Rattle.bench_law.proofs.Courses.{run_at}
use Rattle.bench_law.proofs.Observed.{IsCourse}
use Rattle.bench_law.proofs.Windows.{is_version, least, most}
use Rattle.bench_law.proofs.Sights.{seen_known}

module _ (lanes : ℕ) (grounds : Ground) (means : List Standing) (padded : Bool) (steps : List Step) (c : IsCourse lanes grounds means steps) where
  module _ (f : EndedFrame) (lane place : ℕ) (forwarded : IsForwarded padded steps f lane place) where
    -- how many accepted requests its lane held
    abbrev pub held : ℕ
    held = entered_with lane (happened (take place steps))

    -- by them it leaves, or is dropped, as it was seen to
    seen_so : is_enough f.extent f.bytes ≡ true → IsSeenAs padded (meaning (version grounds (shown steps) held) f.port f.bytes) f.extent f.seen
    seen_so enough =
        let past : List MachineEvent = happened (take place steps) in
        let at = run_at lanes steps place (Forward lane f.port forwarded.bytes) forwarded.forwards c.run in
        let same : Decided (meaning (after (take held (accepted_in past))) f.port forwarded.bytes) ≡ Decided forwarded.verdict =
        sym (verdicts_are_of_a_prefix lanes past at.0 lane f.port forwarded.bytes at.1) ∙ forwarded.decided in
        let verdict : meaning (after (take held (accepted_in past))) f.port forwarded.bytes ≡ forwarded.verdict = cc same in
        let by : meaning (version grounds (shown steps) held) f.port forwarded.bytes ≡ forwarded.verdict =
        ap (λ e. meaning e f.port forwarded.bytes) (is_version lanes grounds means padded steps c f lane place forwarded) ∙ verdict in
        seen_known padded (version grounds (shown steps) held) f.port f.extent f.bytes forwarded.bytes f.seen enough forwarded.known
        (subst (λ (d : Verdict). IsSeenAs padded d Whole f.seen) (sym by) forwarded.seen)

    pub has_version : slice_get (shown steps) f.sent ≡ Some (Entered f.port f.extent f.bytes) → is_enough f.extent f.bytes ≡ true
        → IsVersionOf grounds padded (shown steps) f held
    has_version entered enough =
        record {
          least = least lanes grounds means padded steps c f lane place forwarded entered;
          most = most lanes grounds means padded steps c f lane place forwarded;
          seen = seen_so enough;
        }
