use Rattle.std.proofs.Common.{◌∙◌, sym}
use Rattle.std.proofs.lemmas.Result.{IfOk-weaker}
use Rattle.bench_record.specs.Walk.{sourced_shown}
use Rattle.bench_record.proofs.Walks.{message_other, message_reply, message_sent, message_unread, seen_as}
use Rattle.bench_record.proofs.walk.Walk.see_message.Goals as goal

pub returns-then-is_reply-clause-seen : goal.returns-then-is_reply-clause-seen
returns-then-is_reply-clause-seen c = λ time seen is.
    let s = c.args.given.now.settings in
    let at = sourced_shown c.args.at.now in
    IfOk-weaker c.see_reply.result _ _
    (λ done so. seen_as s.lost time _ _ c.see_reply.new.self
    (message_reply s at c.in-Some.message.now seen c.in-Some.ensures.message (sym c.is_reply.ensures ∙ c.if-is_reply.true)) so)
    (c.see_reply.ensures.seen time seen is)

pub returns-else-is_reply-clause-seen : goal.returns-else-is_reply-clause-seen
returns-else-is_reply-clause-seen c = λ time seen is.
    let s = c.args.given.now.settings in
    let at = sourced_shown c.args.at.now in
    IfOk-weaker c.add.result _ _
    (λ done so. seen_as s.lost time _ _ c.add.new.self
    (message_sent s at c.in-Some.message.now seen c.in-Some.ensures.message (sym c.is_reply.ensures ∙ c.if-is_reply.false)) so)
    (c.add.ensures.seen s.lost time seen is)

pub returns-then-is_managing-clause-seen : goal.returns-then-is_managing-clause-seen
returns-then-is_managing-clause-seen c = λ time seen is.
    let s = c.args.given.now.settings in
    let at = sourced_shown c.args.at.now in
    IfOk-weaker c.pass_unread.result _ _
    (λ done so. seen_as s.lost time _ _ c.pass_unread.new.self
    (message_unread s at seen c.in-None.ensures.message (sym c.is_managing.ensures ∙ c.if-is_managing.true)) so)
    (c.pass_unread.ensures.seen s.lost time seen is)

pub returns-else-is_managing-clause-seen : goal.returns-else-is_managing-clause-seen
returns-else-is_managing-clause-seen c = λ time seen is.
    let s = c.args.given.now.settings in
    let at = sourced_shown c.args.at.now in
    IfOk-weaker c.pass_other.result _ _
    (λ done so. seen_as s.lost time _ _ c.pass_other.new.self
    (message_other s at seen c.in-None.ensures.message (sym c.is_managing.ensures ∙ c.if-is_managing.false)) so)
    (c.pass_other.ensures.seen s.lost time seen is)
