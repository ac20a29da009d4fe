use Rattle.std.proofs.Common.{arith}
use Rattle.std.proofs.lemmas.Grind.{common_steps}
use Rattle.script_replay.proofs.Messages.{fault_digit}
use Rattle.script_replay.proofs.answer.put_fault.Goals as goal

pub returns-clause-items : goal.returns-clause-items
returns-clause-items c = rw (fault_digit c.args.fault) (grind (arith, common_steps))
