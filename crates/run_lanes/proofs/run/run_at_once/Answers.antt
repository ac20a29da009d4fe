use Rattle.std.proofs.Common.{◌≡◌, ◌∙◌, sym, true}
use Rattle.std.specs.Prelude.{length}
use mathlib.Core.Bool.{false≢true}
use Rattle.mib_state.specs.After.{accepted}
use Rattle.plan_publish.specs.Told.{told_list}
use Rattle.std.specs.List.{AllZip}
use Rattle.std.specs.declared.vec.Vec.{Vec}
use Rattle.std.specs.declared.alloc.Global.{Global}
use Rattle.run_lanes.specs.Frames.{frames_in}
use Rattle.run_lanes.specs.Work.{Did}
use Rattle.run_lanes.specs.declared.settling.Done.{Done}
use Rattle.run_lanes.specs.Control.{Applied}
use Rattle.run_lanes.proofs.Applying.{applied_new}
use Rattle.run_lanes.proofs.Running.{of_ok, on_ok, new_home, new_numbers, done_home}
use Rattle.run_lanes.proofs.Outcomes.{run_given, passes_given}
use Rattle.run_lanes.proofs.run.run_at_once.Goals as goal

pub settle-requires : goal.settle-requires
settle-requires g c =
    let s = c.args.job.now.settings in
    let frames = frames_in c.args.job.now.frames in
    let home = c.args.control.now.home in
    let did = of_ok c.work_at_once-done.result.0 c.in-Ok.done (λ (v : Vec Done Global). AllZip (Did s frames) c.args.lanes.items v.items) c.in-Ok.is c.work_at_once-done.ensures.done in
    let homes = done_home s frames c.args.lanes.items c.in-Ok.done.items home (new_home c.args.lanes.items s.lanes home c.requires.lanes) did in
    let applied = on_ok c.work_at_once-done.result.1 c.in_ok-applied.field-0 (Applied c.args.control.now c.work_at_once-done.new.control c.args.requests.now) c.in_ok-applied.was c.work_at_once-done.ensures.applied in
    λ k d lt. c.publish-told.ensures.home ∙ applied.home ∙ homes k d lt

pub returns : goal.returns
returns g c =
    let job = c.args.job.now in
    let s = job.settings in
    let frames = frames_in job.frames in
    let lanes = c.args.lanes.items in
    let ds = c.in-Ok.done.items in
    let home = c.args.control.now.home in
    let did = of_ok c.work_at_once-done.result.0 c.in-Ok.done (λ (v : Vec Done Global). AllZip (Did s frames) c.args.lanes.items v.items) c.in-Ok.is c.work_at_once-done.ensures.done in
    let asked = c.args.requests.now in
    let applied = on_ok c.work_at_once-done.result.1 c.in_ok-applied.field-0 (Applied c.args.control.now c.work_at_once-done.new.control asked) c.in_ok-applied.was c.work_at_once-done.ensures.applied in
    let told = told_list c.publish-told.result in
    let all : told ≡ accepted asked = c.publish-told.ensures.told ∙ applied_new c.args.control.now c.work_at_once-done.new.control asked c.requires.control applied in
    let numbers = new_numbers lanes s.lanes home c.requires.lanes in
    let never : s.after ≡ true → 0 ≡ length (accepted asked) = λ first. absurd (false≢true (sym c.requires.job ∙ first)) in
    record {
      run = run_given told asked job 0 lanes ds numbers did all never c.settle.result c.settle.ensures.settled;
      full = λ is. passes_given told asked job 0 lanes ds numbers did all never (c.settle.ensures.full is);
    }
