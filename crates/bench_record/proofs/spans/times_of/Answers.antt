use Rattle.std.proofs.Common.{◌<◌, ◌≤◌, List, length, map, arith, subst}
use Rattle.std.proofs.lemmas.Grind.{common_steps}
use Rattle.std.proofs.lemmas.List.{take_all}
use Rattle.bench_record.specs.Spans.{IsWithin}
use Rattle.bench_record.specs.declared.captured.CapturedFrame.{CapturedFrame}
use Rattle.bench_record.proofs.Ends.{time_of, times_more}
use Rattle.bench_record.proofs.spans.times_of.Goals as goal

pub loop-frame-preserved : goal.loop-frame-preserved
loop-frame-preserved c =
    let within : c.loop-frame.frame-index < length c.args.frames.now = grind (arith, common_steps) in
    times_more c.args.frames.now c.loop-frame.frame-index _ c.loop-frame.times c.widened-times.result c.widened-times.ensures within c.loop-frame.invariant

pub returns : goal.returns
returns c =
    let past : length c.args.frames.now ≤ c.loop-frame.frame-index = grind (arith, common_steps) in
    subst (λ (frames : List CapturedFrame). IsWithin (map time_of frames) c.loop-frame.times) (take_all c.loop-frame.frame-index c.args.frames.now past) c.loop-frame.invariant
