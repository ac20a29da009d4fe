use Rattle.std.proofs.Common.{arith, inl, slice_index}
use Rattle.std.proofs.lemmas.Bool.{eq-eqb, eqb-true}
use Rattle.script_lines.proofs.Cutting.{NoFeedBelow}
use Rattle.bench_history.proofs.Borders.{first_ended, rest_whole}
use Rattle.bench_history.proofs.joining.end_of_line.Goals as goal

pub returns-in-Some-clause-ended : goal.returns-in-Some-clause-ended
returns-in-Some-clause-ended c = λ ended.
    let bytes = c.args.bytes.now in
    let end = c.in-Some.end in
    let feed = eqb-true (slice_index bytes end) 10 c.in-Some.ensures.1 in
    let none : NoFeedBelow bytes end = λ k below is. c.in-Some.ensures.0.before k (omega arith) below (eq-eqb (slice_index bytes k) 10 is) in
    (first_ended bytes end c.in-Some.ensures.0.high feed none, rest_whole bytes end c.in-Some.ensures.0.high feed none ended)

pub returns-in-Some-clause-alone : goal.returns-in-Some-clause-alone
returns-in-Some-clause-alone c =
    let bytes = c.args.bytes.now in
    let end = c.in-Some.end in
    let feed = eqb-true (slice_index bytes end) 10 c.in-Some.ensures.1 in
    let none : NoFeedBelow bytes end = λ k below is. c.in-Some.ensures.0.before k (omega arith) below (eq-eqb (slice_index bytes k) 10 is) in
    inl (first_ended bytes end c.in-Some.ensures.0.high feed none)
