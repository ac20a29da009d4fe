use Rattle.std.proofs.Common.{◌≡◌, ◌∙◌, sym, ap, true}
use Rattle.std.specs.Prelude.{length}
use Rattle.mib_state.specs.After.{accepted}
use Rattle.plan_publish.specs.Told.{told_list}
use Rattle.run_lanes.specs.Frames.{frames_in}
use Rattle.run_lanes.proofs.Applying.{applied_new, published_home, published_all}
use Rattle.run_lanes.proofs.Learnt.{learnt_out, learnt_home, learnt_numbers}
use Rattle.run_lanes.proofs.Running.{done_home}
use Rattle.run_lanes.proofs.Outcomes.{run_given, passes_given}
use Rattle.run_lanes.proofs.run.run_after.Goals as goal

pub lanes_work-requires-after_bounds : goal.lanes_work-requires-after_bounds
lanes_work-requires-after_bounds g c κs within =
    learnt_out c.args.lanes.items c.learn_all.new.lanes.items (told_list c.publish-first.result) c.args.job.now.settings.lanes c.args.control.now.home c.requires.lanes c.learn_all.ensures

pub settle-requires : goal.settle-requires
settle-requires g c =
    let s = c.args.job.now.settings in
    let frames = frames_in c.args.job.now.frames in
    let home = c.args.control.now.home in
    let lanes = c.learn_all.new.lanes.items in
    let homes = done_home s frames lanes c.in-Ok.done.items home (learnt_home c.args.lanes.items lanes (told_list c.publish-first.result) s.lanes home c.requires.lanes c.learn_all.ensures) c.in-Ok.ensures in
    let same : c.publish-first.new.self.home ≡ c.apply_requests.new.control.home = published_home c.apply_requests.new.control c.publish-first.new.self c.publish-first.ensures.published in
    λ k d lt. c.publish-told.ensures.home ∙ same ∙ c.in_ok-apply_requests.ensures.applied.home ∙ homes k d lt

pub returns : goal.returns
returns g c =
    let job = c.args.job.now in
    let s = job.settings in
    let lanes = c.learn_all.new.lanes.items in
    let ds = c.in-Ok.done.items in
    let home = c.args.control.now.home in
    let asked = c.args.requests.now in
    let control = c.apply_requests.new.control in
    let told = told_list c.publish-told.result in
    let before = told_list c.publish-first.result in
    let first : before ≡ accepted asked = c.publish-first.ensures.told ∙ applied_new c.args.control.now control asked c.requires.control c.in_ok-apply_requests.ensures.applied in
    let same : told ≡ before = c.publish-told.ensures.told ∙ published_all control c.publish-first.new.self c.publish-first.ensures.published ∙ sym c.publish-first.ensures.told in
    let numbers = learnt_numbers c.args.lanes.items lanes before s.lanes home c.requires.lanes c.learn_all.ensures in
    let learnt : s.after ≡ true → length before ≡ length (accepted asked) = λ after. ap length first in
    record {
      run = run_given told asked job (length before) lanes ds numbers c.in-Ok.ensures (same ∙ first) learnt c.settle.result c.settle.ensures.settled;
      full = λ is. passes_given told asked job (length before) lanes ds numbers c.in-Ok.ensures (same ∙ first) learnt (c.settle.ensures.full is);
    }
