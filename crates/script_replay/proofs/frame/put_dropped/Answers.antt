use Rattle.std.proofs.Common.{arith}
use Rattle.std.proofs.lemmas.Grind.{common_steps}
use Rattle.script_replay.proofs.Messages.{reason_digit}
use Rattle.script_replay.proofs.frame.put_dropped.Goals as goal

pub returns-clause-items : goal.returns-clause-items
returns-clause-items c = rw (reason_digit c.args.reason) (grind (arith, common_steps))
