-- An answer of its own, so that no other is looked for where a wrong body breaks it.
use Rattle.std.proofs.Common.{arith}
use Rattle.std.proofs.lemmas.Grind.{common_steps}
use Rattle.capture.proofs.record.split_record.Goals as goal

pub returns-clause-fault : goal.returns-clause-fault
returns-clause-fault c = grind (arith, common_steps)

pub returns-then-behind-stored-clause-fault : goal.returns-then-behind-stored-clause-fault
returns-then-behind-stored-clause-fault c = grind (arith, common_steps)
