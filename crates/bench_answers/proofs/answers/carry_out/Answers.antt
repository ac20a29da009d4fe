use Rattle.std.proofs.Common.{◌∙◌, Bool, List, ap, sym, subst}
use Rattle.std.proofs.lemmas.List.{take_all}
use Rattle.mib_upload.specs.Upload.{answered}
use Rattle.bench_reply.specs.Replies.{Wanted}
use Rattle.bench_reply.specs.Kept.{IsExpected}
use Rattle.bench_reply.specs.declared.expected.Expected.{Expected}
use Rattle.omci_msg.specs.declared.request.Request.{Request}
use Rattle.omci_msg.specs.declared.reply.Reply.{Reply}
use Rattle.bench_answers.specs.Kept.{IsBegun, IsExpectedAdded}
use Rattle.bench_answers.specs.declared.asking.Asking.{Asking}
use Rattle.bench_answers.proofs.Begun.{begun_none, begun_with}
use Rattle.bench_answers.proofs.answers.carry_out.Goals as goal
use Rattle.bench_answers.proofs.answers.carry_out.Goals.{then-request+in_ok-push, else-request}

pub loop-request-init : goal.loop-request-init
loop-request-init c = begun_none c.args.asking.now c.new-expected.result.items c.new-expected.ensures.items

pub loop-request-preserved : goal.loop-request-preserved
loop-request-preserved c =
    let q : Request = c.request-item.result in
    let old : Asking = c.loop-request.asking in
    let new : Asking = c.answer.new.self in
    let one : Wanted = record { request = q; reply = (answered old.desk q).0 } in
    let before : List Expected = c.loop-request.expected.items in
    let behind : List Expected = c.if-request.expected.items in
    let is_added : IsExpectedAdded old.modelled q.wants_answer one before behind =
    elim c.if-request.branch [
      | then-request+in_ok-push w ↦
          let e : Expected = w.of.result in
          let is : IsExpected old.modelled one e =
          subst (λ (b : Bool). IsExpected b one e) (ap (λ (a : Asking). a.modelled) c.in_ok-reply.ensures.asking)
          (subst (λ (r : Reply). IsExpected new.modelled (record { request = q; reply = r }) e) c.in_ok-reply.ensures.reply w.of.ensures) in
          subst (λ (b : Bool). IsExpectedAdded old.modelled b one before behind) (sym w.if-request.true)
          (e, ap (λ v. v.items) w.expected-is ∙ w.in_ok-push.ensures.items, is)
      | else-request w ↦
          subst (λ (b : Bool). IsExpectedAdded old.modelled b one before behind) (sym w.if-request.false) (ap (λ v. v.items) w.expected-is)
    ] in
    begun_with c.args.requests.now c.loop-request.request-index q _ c.args.asking.now old new before behind c.loop-request-test.true c.request-item.is
    c.in_ok-reply.ensures.asking c.in_ok-reply.ensures.requests is_added c.loop-request.invariant

pub returns : goal.returns
returns c =
    subst (λ (qs : List Request). IsBegun qs c.args.asking.now c.loop-request.asking c.loop-request.expected.items)
    (take_all c.loop-request.request-index c.args.requests.now c.loop-request-test.false) c.loop-request.invariant
