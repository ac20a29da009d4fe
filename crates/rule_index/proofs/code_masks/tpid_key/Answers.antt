-- Bounded, so that a wrong body is refused at once.
use Rattle.std.proofs.Common.{rules}
use Rattle.rule_index.proofs.code_masks.tpid_key.Goals as goal

pub returns-in-Input-clause-value : goal.returns-in-Input-clause-value
returns-in-Input-clause-value c = search rules fits 30
