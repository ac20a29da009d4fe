use Rattle.std.proofs.Common.{sym, ◌∙◌, arith}
use Rattle.omci_msg.specs.Message.{request_of}
use Rattle.script_replay.proofs.Answered.{answered_long, left_same}
use Rattle.script_replay.proofs.answer.answer_message.Goals as goal

pub put_reply-requires : goal.put_reply-requires
put_reply-requires c =
    let long = answered_long c.args.onu.now c.args.bytes.now _ (sym c.message.ensures.answer ∙ c.in-Ok-Some.is) in omega (arith, long)

pub returns-in-Ok-Some-clause-len : goal.returns-in-Ok-Some-clause-len
returns-in-Ok-Some-clause-len c =
    let long = answered_long c.args.onu.now c.args.bytes.now _ (sym c.message.ensures.answer ∙ c.in-Ok-Some.is) in omega (arith, long)

pub returns-in-Ok-Some-clause-onu : goal.returns-in-Ok-Some-clause-onu
returns-in-Ok-Some-clause-onu c = c.message.ensures.after ∙ left_same c.args.onu.now (request_of c.args.bytes.now)

pub returns-in-Ok-None-clause-onu : goal.returns-in-Ok-None-clause-onu
returns-in-Ok-None-clause-onu c = c.message.ensures.after ∙ left_same c.args.onu.now (request_of c.args.bytes.now)

pub returns-in-Err-clause-onu : goal.returns-in-Err-clause-onu
returns-in-Err-clause-onu c = c.message.ensures.after ∙ left_same c.args.onu.now (request_of c.args.bytes.now)
