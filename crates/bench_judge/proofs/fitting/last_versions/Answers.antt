use Rattle.std.proofs.Common.{rules, arith}
use Rattle.bench_judge.proofs.Alone.{nothing_had}
use Rattle.bench_judge.proofs.fitting.last_versions.Goals as goal

pub loop-event-init : goal.loop-event-init
loop-event-init c =
    let case = c.args.case.now in
    let none = nothing_had case.events.now case.requests.now case.frames.now c.in_ok-vec.field-0.items (c.in_ok-vec.ensures.items_if_clones_equal (search rules)) in
    record {
      within = omega arith;
      live = c.in_ok-new.ensures;
      count = none.0;
      had = none.1;
    }
