use Rattle.std.proofs.Common.{◌≡◌, Some, sym, ap, ◌∙◌, subst}
use Rattle.core.specs.Result.{IfOk}
use Rattle.std.specs.Prelude.{option_map}
use Rattle.omci_msg.specs.Message.{reply_spelling}
use Rattle.omci_msg.specs.Replies.{wanted_reply}
use Rattle.omci_msg.specs.declared.Reply.{Reply}
use Rattle.mib_upload.specs.Upload.{answered}
use Rattle.plan_publish.specs.Control.{answer_to, carried_out}
use Rattle.plan_publish.proofs.control.Control.message.Goals as goal

pub returns-in_default-clause-err : goal.returns-in_default-clause-err
returns-in_default-clause-err c = c.in_default.ensures.err

pub returns-in-Some-clause-after : goal.returns-in-Some-clause-after
returns-in-Some-clause-after c = subst (λ r. IfOk r (λ q. c.carry_out.new.self ≡ carried_out c.args.self.now q)) c.in-Ok.ensures c.in-Ok-carry_out.ensures.after

pub returns-in-None-clause-after : goal.returns-in-None-clause-after
returns-in-None-clause-after c = subst (λ r. IfOk r (λ q. c.carry_out.new.self ≡ carried_out c.args.self.now q)) c.in-Ok.ensures c.in-Ok-carry_out.ensures.after

pub returns-in-Some-clause-answer : goal.returns-in-Some-clause-answer
returns-in-Some-clause-answer c =
    let q = c.in-Ok.request in
    let wanted : Some c.in-Some.reply ≡ wanted_reply q (answered c.args.self.now.desk q).0 =
    sym c.in-Some.is ∙ c.wanted_reply.ensures ∙ ap (λ (r : Reply). wanted_reply q r) c.in-Ok-carry_out.ensures.reply in
    let written : Some c.write.result ≡ answer_to q (answered c.args.self.now.desk q).0 =
    ap Some c.write.ensures ∙ ap (λ (r : _). option_map reply_spelling r) wanted in
    subst (λ r. IfOk r (λ q. Some c.write.result ≡ answer_to q (answered c.args.self.now.desk q).0)) c.in-Ok.ensures written
