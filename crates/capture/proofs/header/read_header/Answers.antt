-- An answer of its own, so that no other is looked for where a wrong body breaks it.
use Rattle.std.proofs.Common.{arith}
use Rattle.std.proofs.lemmas.Grind.{common_steps}
use Rattle.capture.proofs.header.read_header.Goals as goal

pub returns-in-1 : goal.returns-in-1
returns-in-1 c = grind (arith, common_steps)
