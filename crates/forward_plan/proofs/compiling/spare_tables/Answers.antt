use Rattle.std.proofs.Common.{arith, refl, rules}
use Rattle.forward_plan.proofs.Forgotten.{one_more_spare}
use Rattle.forward_plan.proofs.compiling.spare_tables.Goals as goal

pub loop-made-preserved : goal.loop-made-preserved
loop-made-preserved c = record {
  len = omega (arith, c.loop-made.invariant.len, c.push_reserved.ensures.len);
  room = omega (arith, c.loop-made.invariant.room, c.push_reserved.ensures.capacity);
  none = rw c.push_reserved.ensures.items (one_more_spare c.loop-made.tables.items _ refl c.loop-made.invariant.none);
}

-- bounded, so that a wrong body is refused at once
pub loop-made-init : goal.loop-made-init
loop-made-init c = search rules fits 30
