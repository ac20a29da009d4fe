use Rattle.std.proofs.Common.{◌∙◌, sym, arith}
use Rattle.std.specs.Prelude.{◌==◌}
use Rattle.bench_answers.proofs.Finding.{none_any, tci_here, tci_later}
use Rattle.bench_answers.proofs.search.has_identifier.Goals as goal

pub returns-then-expected-number : goal.returns-then-expected-number
returns-then-expected-number c = λ modelled requests is.
    sym (tci_here modelled requests c.args.expected.now c.loop-number.number _ is c.loop-number-test.true c.args.tci c.if-expected-number.true)
    ∙ c.loop-number.invariant modelled requests is

pub loop-number-preserved : goal.loop-number-preserved
loop-number-preserved c = λ modelled requests is.
    sym (tci_later modelled requests c.args.expected.now c.loop-number.number _ is c.loop-number-test.true c.args.tci c.if-expected-number.false)
    ∙ c.loop-number.invariant modelled requests is

pub returns : goal.returns
returns c = λ modelled requests is.
    sym (none_any (λ w. w.reply.tci == c.args.tci) requests c.loop-number.number (omega (arith, c.loop-number-test.false, is.count)))
    ∙ c.loop-number.invariant modelled requests is
