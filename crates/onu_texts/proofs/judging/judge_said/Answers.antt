use Rattle.onu_texts.specs.Judging.{may_be_unfinished}
use Rattle.onu_texts.proofs.Found.{says_so}
use Rattle.onu_texts.proofs.judging.judge_said.Goals as goal

pub returns-clause-said : goal.returns-clause-said
returns-clause-said c =
    says_so (may_be_unfinished c.args.asked.now.flags) _ c.args.settings.now c.args.start.now c.args.asked.now.history.now _ _
    c.said_of-number.ensures c.has_flag.ensures c.in-Ok.ensures.found
