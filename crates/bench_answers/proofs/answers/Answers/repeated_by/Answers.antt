use Rattle.std.proofs.Common.{◌-◌, List, subst, sym}
use Rattle.bench_reply.specs.declared.expected.Expected.{Expected}
use Rattle.bench_answers.specs.Kept.{AreExpected}
use Rattle.bench_answers.proofs.Lookups.{all_so, none_left, not_right, one_waits}
use Rattle.bench_answers.proofs.Places.{found}
use Rattle.bench_answers.proofs.answers.Answers.repeated_by.Goals as goal

pub returns-then-self-due : goal.returns-then-self-due
returns-then-self-due c = λ grounds events place is.
    let self = c.args.self.now in
    let due = c.in-Some.due.now in
    let one = c.in-Some.ensures.lookup in
    none_left grounds events place self is c.args.reply.now c.if-self-eq0.false due
    (found self.asking.due.items c.deref.result.now (self.replies.counts.next - 1) due c.deref.ensures.value one.3.0 one.1) c.if-self-due.true

pub returns-then-not-is_reply_to : goal.returns-then-not-is_reply_to
returns-then-not-is_reply_to c = λ grounds events place is.
    let self = c.args.self.now in
    let due = c.in-Some.due.now in
    let one = c.in-Some.ensures.lookup in
    let expected = c.in-Some-get.expected.now in
    let other = c.in-Some-get.ensures.lookup in
    not_right grounds events place self is c.args.reply.now c.if-self-eq0.false due
    (found self.asking.due.items c.deref.result.now (self.replies.counts.next - 1) due c.deref.ensures.value one.3.0 one.1) expected
    (found self.asking.expected.items c.deref-2.result.now (self.replies.counts.next - 1) expected c.deref-2.ensures.value other.3.0 other.1)
    c.is_reply_to.result c.is_reply_to.ensures c.if-not-is_reply_to.true

pub returns-then-has_identifier : goal.returns-then-has_identifier
returns-then-has_identifier c = λ grounds events place is.
    let self = c.args.self.now in
    let due = c.in-Some.due.now in
    let one = c.in-Some.ensures.lookup in
    let expected = c.in-Some-get.expected.now in
    let other = c.in-Some-get.ensures.lookup in
    one_waits grounds events place self is c.args.reply.now c.if-self-eq0.false due
    (found self.asking.due.items c.deref.result.now (self.replies.counts.next - 1) due c.deref.ensures.value one.3.0 one.1) expected
    (found self.asking.expected.items c.deref-2.result.now (self.replies.counts.next - 1) expected c.deref-2.ensures.value other.3.0 other.1)
    c.is_reply_to.result c.is_reply_to.ensures c.has_identifier.result
    (λ modelled requests are. c.has_identifier.ensures modelled requests
    (subst (λ (es : List Expected). AreExpected modelled requests es) (sym c.deref-3.ensures.value) are)) c.if-has_identifier.true

pub returns : goal.returns
returns c = λ grounds events place is.
    let self = c.args.self.now in
    let due = c.in-Some.due.now in
    let one = c.in-Some.ensures.lookup in
    let expected = c.in-Some-get.expected.now in
    let other = c.in-Some-get.ensures.lookup in
    all_so grounds events place self is c.args.reply.now c.if-self-eq0.false due
    (found self.asking.due.items c.deref.result.now (self.replies.counts.next - 1) due c.deref.ensures.value one.3.0 one.1) expected
    (found self.asking.expected.items c.deref-2.result.now (self.replies.counts.next - 1) expected c.deref-2.ensures.value other.3.0 other.1)
    c.is_reply_to.result c.is_reply_to.ensures c.has_identifier.result
    (λ modelled requests are. c.has_identifier.ensures modelled requests
    (subst (λ (es : List Expected). AreExpected modelled requests es) (sym c.deref-3.ensures.value) are)) c.if-self-due.false c.if-not-is_reply_to.false c.if-has_identifier.false
