use Rattle.std.proofs.Common.{◌<◌, ◌∙◌, ap, arith, length, slice_set, sym}
use Rattle.std.proofs.lemmas.Grind.{common_steps}
use Rattle.std.proofs.lemmas.List.Edits.{map_over_more}
use Rattle.bench_history.specs.Doubts.{raised}
use Rattle.bench_history.specs.declared.doubts.Doubt.{Doubt}
use Rattle.bench_history.proofs.doubts.raise_each.Goals as goal

pub loop-i-preserved : goal.loop-i-preserved
loop-i-preserved c =
    let within : c.loop-i.i < length c.args.doubts.now = grind (arith, common_steps) in
    ap (λ (d : Doubt). slice_set c.loop-i.doubts c.loop-i.i d) c.raise.ensures
    ∙ ap (λ (d : Doubt). slice_set c.loop-i.doubts c.loop-i.i (raised c.args.frames.now d)) (sym c.index-doubts-i.is)
    ∙ map_over_more (raised c.args.frames.now) c.args.doubts.now c.loop-i.doubts c.loop-i.i c.index-doubts-i.result within c.loop-i.invariant
    c.index-doubts-i.is
