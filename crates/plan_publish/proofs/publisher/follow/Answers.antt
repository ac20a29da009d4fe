use Rattle.std.proofs.Common.{[], ◌∷◌}
use Rattle.plan_publish.proofs.Beginnings.{starts_longer}
use Rattle.plan_publish.proofs.publisher.follow.Goals as goal

pub returns-else-len-accepted-clause-log : goal.returns-else-len-accepted-clause-log
returns-else-len-accepted-clause-log c all h n = starts_longer all (c.args.request.now ∷ []) c.args.history.now.seen.log h
