use Rattle.plan_publish.proofs.Keeps.{opens}
use Rattle.plan_publish.proofs.opening.new_writer.Goals as goal

pub new-requires-3-clause-rule : goal.new-requires-3-clause-rule
new-requires-3-clause-rule c = let h = c.in_ok-first.ensures in opens _ h.0 h.1
