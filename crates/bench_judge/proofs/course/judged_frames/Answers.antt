use Rattle.std.proofs.Common.{◌≡◌, ◌∙◌, ◌+◌, ◌-◌, ◌<◌, ◌++◌, [], List, None, Some, ap, arith, false, get_or, length, slice_index, subst, sym}
use Rattle.std.specs.Prelude.{slice_get}
use Rattle.std.proofs.lemmas.Option.{slice_get-get_or}
use Rattle.bench_judge.specs.Course.{AreJudgedUnder}
use Rattle.bench_judge.specs.declared.course.JudgedFrame.{JudgedFrame}
use Rattle.bench_judge.specs.declared.frame.Frame.{Frame}
use Rattle.bench_judge.proofs.Courses.{judged_more, none_judged}
use Rattle.bench_judge.proofs.course.judged_frames.Goals as goal

-- what a read past the end would give
abbrev no_frame : Frame
no_frame = record { sent = 0; ended = None; port = 0; is_enough = false; least = 0; most = 0 }

pub loop-number-init : goal.loop-number-init
loop-number-init c grounds sent =
    let frames = c.args.frames.now in
    subst (AreJudgedUnder c.args.base c.args.events.now frames (slice_index c.args.versions.now) 0) (sym c.new-list.ensures.items)
    (none_judged c.args.base c.args.events.now frames (slice_index c.args.versions.now))

pub loop-number-preserved : goal.loop-number-preserved
loop-number-preserved c grounds sent =
    let events = c.args.events.now in
    let frames = c.args.frames.now in
    let n = c.loop-number.number in
    let frame = get_or frames n no_frame in
    let at : slice_get frames n ≡ Some frame = slice_get-get_or frames n no_frame c.loop-number-test.true in
    let is_version : c.saturating_sub-version.result ≡ slice_index c.args.versions.now n - c.args.base =
    c.saturating_sub-version.ensures ∙ ap (λ v. v - c.args.base) c.version_at.ensures in
    subst (AreJudgedUnder c.args.base events frames (slice_index c.args.versions.now) (n + 1)) (sym c.in_ok-add.ensures)
    (judged_more c.args.base events frames (slice_index c.args.versions.now) n c.loop-number.list.items (c.loop-number.invariant grounds sent) frame at
    grounds (sent n frame at) c.saturating_sub-version.result is_version c.judged.result c.judged.ensures)

pub returns : goal.returns
returns c grounds sent =
    let same : c.loop-number.number ≡ length c.args.frames.now = omega (arith, c.loop-number-test.false, c.loop-number.auto.number-end) in
    subst (λ k. AreJudgedUnder c.args.base c.args.events.now c.args.frames.now (slice_index c.args.versions.now) k c.loop-number.list.items) same
    (c.loop-number.invariant grounds sent)
