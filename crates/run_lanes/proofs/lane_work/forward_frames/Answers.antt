use Rattle.std.proofs.Common.{◌≡◌, ◌∙◌, ap, rules}
use Rattle.std.specs.Prelude.{Err}
use Rattle.plan_publish.specs.Held.{held_entities, held_lists, held_version}
use Rattle.plan_publish.specs.Lane.{learnt_by}
use Rattle.run_lanes.specs.declared.fault.LaneFault.TheVariants.{CountFull}
use Rattle.run_lanes.specs.Frames.{frames_in}
use Rattle.run_lanes.proofs.Working.{is_forwarded, is_passed}
use Rattle.run_lanes.proofs.lane_work.forward_frames.Goals as goal

pub returns-in-Ok-copy_tally-clause-forwarded : goal.returns-in-Ok-copy_tally-clause-forwarded
returns-in-Ok-copy_tally-clause-forwarded g c =
    let h = c.in-Some.ensures.holds in
    let held = c.in-Some.held in
    let done = c.in-Ok.ensures in
    let kept = c.in-Ok-copy_tally.ensures in (
      h.0,
      held_lists held,
      h.1,
      search rules,
      is_forwarded c.args.job.now.settings (frames_in c.args.job.now.frames) c.args.frames.now h.0 (learnt_by c.args.lane.now) (held_entities held) (held_version held) (held_lists held) c.args.batch
          c.run_batch_into-done.new.report.verdicts.items c.in-Ok-copy_tally.tally h.2 c.requires (kept.number ∙ done.number) (kept.version ∙ done.version) done.verdicts kept.counts,
    )

pub returns-in-Err-clause-full : goal.returns-in-Err-clause-full
returns-in-Err-clause-full g c is =
    let h = c.in-Some.ensures.holds in
    let held = c.in-Some.held in
    let same : c.forwarding.result ≡ CountFull = cc in
    let passes = c.in-Err.ensures.full (ap Err (c.forwarding.ensures same)) in (
      held_lists held,
      search rules,
      is_passed c.args.job.now.settings (frames_in c.args.job.now.frames) c.args.frames.now h.0 (learnt_by c.args.lane.now) (held_entities held) (held_version held) (held_lists held) c.args.batch h.2
          c.requires passes,
    )
