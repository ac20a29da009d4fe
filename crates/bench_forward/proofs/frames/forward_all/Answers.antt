use Rattle.std.proofs.Common.{◌≡◌, ◌++◌, ◌∷◌, [], sym, subst, ◌∙◌, arith, Some, Ok}
use Rattle.std.specs.Prelude.{IfSome}
use Rattle.std.proofs.lemmas.Result.{err_from_is_err_and}
use Rattle.bench_capture.specs.Calls.{GoesOn}
use Rattle.bench_forward.proofs.SoFar.{ends_by_reader, ends_in_frame, ends_in_header, left_at_start, left_more, so_far_more, so_far_none}
use Rattle.bench_forward.proofs.frames.forward_all.Goals as goal

pub returns-in_err-write_headers : goal.returns-in_err-write_headers
returns-in_err-write_headers g c =
    let p = err_from_is_err_and c.from_residual.result c.from_residual.ensures.1 in
    rw (p.1, p.2)
    (ends_in_header c.args.frames.now.left c.args.setting.now.mib.now.entities c.args.setting.now.port c.args.state.now.totals _ _ _ _ _ c.in_err-write_headers.ensures.packets_part
    c.in_err-write_headers.ensures.drops_part c.requires.totals)

pub loop-fault-init : goal.loop-fault-init
loop-fault-init g c = (
  [],
  so_far_none c.args.setting.now.mib.now.entities c.args.setting.now.port c.args.state.now _ _ _ _ _ c.requires.gems c.requires.totals c.in_ok-write_headers.ensures.packets
      c.in_ok-write_headers.ensures.drops,
  left_at_start c.args.frames.now.left,
)

pub returns-in-Err : goal.returns-in-Err
returns-in-Err g c =
    let s = c.loop-fault.invariant in
    ends_by_reader c.args.frames.now.left c.loop-fault.frames.left c.advance.new.self s.0 c.args.setting.now.mib.now.entities c.args.setting.now.port c.loop-fault.state _ c.in-Err.fault s.2
    c.in-Err.ensures.goes_on s.1

pub loop-fault-smaller : goal.loop-fault-smaller
loop-fault-smaller g c = omega (arith, c.in_default.ensures.counted, c.in_default.ensures.few)

pub loop-fault-preserved : goal.loop-fault-preserved
loop-fault-preserved g c =
    let s = c.loop-fault.invariant in
    let frame = c.unwrap-frame.result in
    let goes = subst (λ is. IfSome c.loop-fault.frames.left (λ all. GoesOn all (Ok is) c.advance.new.self)) c.in-Ok-true.field-0-test c.in-Ok-true.ensures.goes_on in
    let at : Some frame ≡ c.advance.new.self.frame = sym c.unwrap-frame.ensures ∙ c.frame.ensures in (
      s.0 ++ frame ∷ [],
      so_far_more c.args.setting.now.mib.now.entities c.args.setting.now.port s.0 frame c.loop-fault.state c.forward_frame.new.state _ _ _ _ _ _ _ _ _ s.1 c.in_default.ensures.leaves,
      left_more c.args.frames.now.left c.loop-fault.frames.left c.advance.new.self s.0 frame s.2 goes at,
    )

pub returns-in-Err-forward_frame : goal.returns-in-Err-forward_frame
returns-in-Err-forward_frame g c =
    let s = c.loop-fault.invariant in
    let frame = c.unwrap-frame.result in
    let goes = subst (λ is. IfSome c.loop-fault.frames.left (λ all. GoesOn all (Ok is) c.advance.new.self)) c.in-Ok-true.field-0-test c.in-Ok-true.ensures.goes_on in
    let at : Some frame ≡ c.advance.new.self.frame = sym c.unwrap-frame.ensures ∙ c.frame.ensures in
    ends_in_frame c.args.frames.now.left c.loop-fault.frames.left c.advance.new.self s.0 frame c.args.setting.now.mib.now.entities c.args.setting.now.port c.loop-fault.state c.forward_frame.new.state
    c.in-Err-forward_frame.fault _ _ _ _ _ _ _ _ _ s.2 goes at s.1 c.in-Err-forward_frame.ensures.leaves
