use Rattle.std.proofs.Common.{ap}
use Rattle.std.specs.Prelude.{is_none}
use Rattle.script_replay.proofs.answer.answer_line.Goals as goal

pub returns-in-None-clause-bad : goal.returns-in-None-clause-bad
returns-in-None-clause-bad c = ap is_none c.in-None.ensures.asked
