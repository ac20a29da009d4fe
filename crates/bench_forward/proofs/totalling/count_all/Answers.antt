use Rattle.std.proofs.Common.{◌≡◌, ◌+◌, ◌++◌, ◌∷◌, [], length, sym, subst, ◌∙◌, arith, refl, List, ℕ, Some, None, Ok}
use Rattle.std.specs.Prelude.{IfSome}
use Rattle.std.proofs.lemmas.List.{length-map}
use Rattle.bench_capture.specs.Calls.{GoesOn}
use Rattle.frame_stats.specs.Figures.{Frames}
use Rattle.bench_forward.specs.Counted.{behind_frame, nothing_written, state_of}
use Rattle.bench_forward.specs.Frames.{leaving, verdict_on}
use Rattle.bench_forward.specs.Packets.{gems_behind}
use Rattle.bench_forward.proofs.OneMore.{gems_more}
use Rattle.bench_forward.proofs.SoFar.{AreSoFar, ends_by_reader, ends_in_frame, left_at_start, left_more, so_far_more, so_far_none}
use Rattle.bench_forward.proofs.totalling.count_all.Goals as goal

pub loop-fault-init : goal.loop-fault-init
loop-fault-init g c = (
  [],
  so_far_none c.args.setting.now.mib.now.entities c.args.setting.now.port (state_of [] c.args.totals.now) None None None None None refl c.requires tt tt,
  left_at_start c.args.frames.now.left,
)

pub returns-in-Err : goal.returns-in-Err
returns-in-Err g c =
    let s = c.loop-fault.invariant in
    let e = c.args.setting.now.mib.now.entities in
    let port = c.args.setting.now.port in
    ends_by_reader c.args.frames.now.left c.loop-fault.frames.left c.advance.new.self s.0 e port
    (state_of (gems_behind [] (leaving e port s.0)) c.loop-fault.totals) nothing_written c.in-Err.fault s.2 c.in-Err.ensures.goes_on s.1

pub loop-fault-smaller : goal.loop-fault-smaller
loop-fault-smaller g c = omega (arith, c.in_default.ensures.counted, c.in_default.ensures.few)

pub loop-fault-preserved : goal.loop-fault-preserved
loop-fault-preserved g c =
    let s = c.loop-fault.invariant in
    let e = c.args.setting.now.mib.now.entities in
    let port = c.args.setting.now.port in
    let frame = c.unwrap-frame.result in
    let gems = gems_behind [] (leaving e port s.0) in
    let totals = c.count_frame.new.totals in
    let number = c.loop-fault.totals.frames + 1 in
    let counted : number ≡ length s.0 + 1 = omega (arith, s.1.forwarded.totals.figures Frames, length-map s.0 (verdict_on e port)) in
    let goes = subst (λ is. IfSome c.loop-fault.frames.left (λ all. GoesOn all (Ok is) c.advance.new.self)) c.in-Ok-true.field-0-test c.in-Ok-true.ensures.goes_on in
    let at : Some frame ≡ c.advance.new.self.frame = sym c.unwrap-frame.ensures ∙ c.frame.ensures in
    let more = so_far_more e port s.0 frame (state_of gems c.loop-fault.totals) (state_of (behind_frame e port gems number frame) totals)
    None None None None None None None None None s.1 (c.in_default.ensures.leaves gems) in (
      s.0 ++ frame ∷ [],
      subst (λ (behind : List ℕ). AreSoFar e port (s.0 ++ frame ∷ []) (state_of behind totals) nothing_written) (sym (gems_more e port s.0 frame number counted)) more,
      left_more c.args.frames.now.left c.loop-fault.frames.left c.advance.new.self s.0 frame s.2 goes at,
    )

pub returns-in-Err-count_frame : goal.returns-in-Err-count_frame
returns-in-Err-count_frame g c =
    let s = c.loop-fault.invariant in
    let e = c.args.setting.now.mib.now.entities in
    let port = c.args.setting.now.port in
    let frame = c.unwrap-frame.result in
    let gems = gems_behind [] (leaving e port s.0) in
    let goes = subst (λ is. IfSome c.loop-fault.frames.left (λ all. GoesOn all (Ok is) c.advance.new.self)) c.in-Ok-true.field-0-test c.in-Ok-true.ensures.goes_on in
    let at : Some frame ≡ c.advance.new.self.frame = sym c.unwrap-frame.ensures ∙ c.frame.ensures in
    ends_in_frame c.args.frames.now.left c.loop-fault.frames.left c.advance.new.self s.0 frame e port (state_of gems c.loop-fault.totals)
    (state_of (behind_frame e port gems (c.loop-fault.totals.frames + 1) frame) c.count_frame.new.totals) c.in-Err-count_frame.fault
    None None None None None None None None None s.2 goes at s.1
    (c.in-Err-count_frame.ensures.leaves gems)
