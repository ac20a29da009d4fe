use Rattle.std.proofs.Common.{◌<◌, ◌+◌, ◌-◌, ◌/◌, arith, length}
use Rattle.bench_coverage.proofs.Placed.{below}
use Rattle.bench_coverage.proofs.marking.place_of.Goals as goal

pub loop-low-preserved-then-number : goal.loop-low-preserved-then-number
loop-low-preserved-then-number c =
    let held = c.loop-low.invariant in
    let middle = c.loop-low.low + (c.loop-low.high - c.loop-low.low) / 2 in
    let ahead : middle < c.loop-low.high = omega (arith, c.loop-low-test.true) in
    let within : middle < length c.args.classes.now = omega (arith, ahead, held.high) in
    record {
      low = omega (arith, ahead);
      high = held.high;
      before = below c.args.classes.now c.requires middle c.args.number c.index-classes-middle.result within
          (omega (arith, c.if-number.true, c.number.ensures.value));
      behind = held.behind;
    }
