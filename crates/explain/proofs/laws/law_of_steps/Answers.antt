use Rattle.explain.proofs.Admits.{matches_without_mismatch}
use Rattle.explain.proofs.Orders.{first_tried}
use Rattle.explain.proofs.Origins.{true_origins}
use Rattle.explain.proofs.Priorities.{true_priority}
use Rattle.explain.proofs.Tries.{tells_the_used}
use Rattle.explain.proofs.laws.law_of_steps.Goals as goal

pub returns : goal.returns
returns c = record {
  order = first_tried;
  mismatch = matches_without_mismatch;
  used = tells_the_used;
  tags = true_origins;
  priority = true_priority;
}
