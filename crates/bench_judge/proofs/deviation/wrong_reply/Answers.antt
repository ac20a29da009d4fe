use Rattle.std.proofs.Common.{refl, arith}
use Rattle.bench_judge.proofs.Wrongs.{sent_before, unasked_is, wrong_is}
use Rattle.bench_judge.specs.Terms.{terms_of}
use Rattle.bench_judge.proofs.deviation.wrong_reply.Goals as goal

pub overflow_add-result : goal.overflow_add-result
overflow_add-result c =
    let lt = sent_before (terms_of c.args.terms.now) c.args.events.now c.args.walk c.requires.walked c.requires.within c.in-Some.awaited c.in-Some.is in
    omega (arith, lt)

pub returns-in-Some : goal.returns-in-Some
returns-in-Some c =
    wrong_is (terms_of c.args.terms.now) c.args.events.now c.args.walk c.requires.walked c.requires.within c.in-Some.awaited c.args.reply _ c.in-Some.is c.requires.replied refl

pub returns : goal.returns
returns c =
    unasked_is (terms_of c.args.terms.now) c.args.events.now c.args.walk c.requires.walked c.requires.within c.args.reply c.in-None.is c.requires.replied
