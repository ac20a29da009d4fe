-- Bounded, so that a wrong body is refused at once.
use Rattle.std.proofs.Common.{rules}
use Rattle.plan_publish.proofs.told.Told.version.Goals as goal

pub returns-clause-version : goal.returns-clause-version
returns-clause-version c = search rules fits 30
