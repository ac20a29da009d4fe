use Rattle.std.proofs.Common.{ℕ, ◌+◌, ◌-◌, ◌/◌, ◌<◌, arith, subst}
use Rattle.frame_classes.proofs.Finding.{smaller_up_to}
use Rattle.frame_classes.proofs.found.place_of.Goals as goal

pub loop-low-preserved-then-number : goal.loop-low-preserved-then-number
loop-low-preserved-then-number c =
    record {
      low = omega arith;
      high = omega arith;
      before =
          smaller_up_to c.args.samples.now (c.loop-low.low + (c.loop-low.high - c.loop-low.low) / 2) c.args.number _ c.requires (omega arith)
          (subst (λ (n : ℕ). n < c.args.number) c.number.ensures.value c.if-number.true);
      behind = c.loop-low.invariant.behind;
    }
