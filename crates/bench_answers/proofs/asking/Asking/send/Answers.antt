use Rattle.std.proofs.Common.{Some, ap, sym, refl, take, ◌∙◌}
use Rattle.omci_msg.specs.declared.request.Request.{Request}
use Rattle.omci_msg.specs.Message.{request_of}
use Rattle.bench_answers.specs.declared.asking.Asking.{Asking}
use Rattle.bench_answers.proofs.Results.{ok_more, ok_of, repeat_as}
use Rattle.bench_answers.proofs.Sending.{faulty_sent, repeat_sent, request_sent}
use Rattle.bench_answers.proofs.asking.Asking.send.Goals as goal

pub returns-in_default : goal.returns-in_default
returns-in_default c = λ grounds events at is.
    let old : Asking = c.args.self.now in
    let new : Asking = record old { last = Some c.copied.result } in
    faulty_sent grounds events c.args.place c.args.message.now old new at (sym c.in_default.ensures) refl refl refl refl refl refl (ap Some c.copied.ensures) is

pub returns-then-is_repeat : goal.returns-then-is_repeat
returns-then-is_repeat c = λ grounds events at is.
    let old : Asking = c.args.self.now in
    let new : Asking = record old { last = Some c.copied.result; due = c.count_repeat.new.due } in
    let q : Request = c.in-Some.request in
    repeat_sent grounds events c.args.place c.args.message.now q old new at (sym c.in-Some.ensures)
    (repeat_as grounds.repeats old.repeats c.is_repeat-is_repeat.result c.args.message.now old.last (take c.args.place events) q is.repeats is.last c.in-Some.ensures c.is_repeat-is_repeat.ensures ∙ c.if-is_repeat.true)
    c.ranges.place.fits refl refl refl refl refl (ap Some c.copied.ensures) is c.count_repeat.ensures

pub returns : goal.returns
returns c = λ grounds events at is.
    let old : Asking = c.args.self.now in
    let q : Request = c.in-Some.request in
    ok_more c.ask.result _ _ (λ x done.
    request_sent grounds events c.args.place c.args.message.now q old c.ask.new.self (Some c.copied.result) at (ok_of (request_of c.args.message.now) q c.in-Some.ensures)
    (repeat_as grounds.repeats old.repeats c.is_repeat-is_repeat.result c.args.message.now old.last (take c.args.place events) q is.repeats is.last c.in-Some.ensures c.is_repeat-is_repeat.ensures ∙ c.if-is_repeat.false)
    (ap Some c.copied.ensures) done is) c.ask.ensures
