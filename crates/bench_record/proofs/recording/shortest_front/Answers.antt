use Rattle.std.proofs.Common.{◌≡◌, ◌<◌, ◌≤◌, List, length, true, arith, subst}
use Rattle.std.specs.List.{list_all}
use Rattle.std.proofs.lemmas.Grind.{common_steps}
use Rattle.std.proofs.lemmas.List.{take_all}
use Rattle.bench_record.specs.declared.walk.Sourced as given
use Rattle.bench_record.proofs.Recordings.{long_at, shortest_more}
use Rattle.bench_record.proofs.recording.shortest_front.Goals as goal

pub loop-at-preserved : goal.loop-at-preserved
loop-at-preserved c =
    let within : c.loop-at.at-index < length c.args.frames.now = grind (arith, common_steps) in
    shortest_more c.args.settings.now c.shortest_with-shortest.result c.loop-at.shortest c.args.frames.now c.loop-at.at-index _ c.shortest_with-shortest.ensures.shorter
    c.shortest_with-shortest.ensures.long within c.loop-at.invariant

pub returns : goal.returns
returns c =
    let past : length c.args.frames.now ≤ c.loop-at.at-index = grind (arith, common_steps) in
    subst (λ (frames : List given.Sourced). list_all (long_at c.args.settings.now c.loop-at.shortest) frames ≡ true)
    (take_all c.loop-at.at-index c.args.frames.now past) c.loop-at.invariant
