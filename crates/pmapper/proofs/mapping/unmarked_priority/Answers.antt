-- Bounded, so that a wrong body is refused at once.
use Rattle.std.proofs.Common.{rules}
use Rattle.pmapper.proofs.mapping.unmarked_priority.Goals as goal

pub returns-in-ByDscp-None-clause-value : goal.returns-in-ByDscp-None-clause-value
returns-in-ByDscp-None-clause-value c = search rules fits 30
