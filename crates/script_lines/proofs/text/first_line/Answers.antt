use Rattle.std.proofs.Common.{arith, length, slice_index}
use Rattle.std.proofs.lemmas.Bool.{eq-eqb, eqb-true}
use Rattle.script_lines.proofs.Cutting.{lines-first, lines-none, NoFeedBelow}
use Rattle.script_lines.proofs.text.first_line.Goals as goal

pub returns-in-Some-clause-lines : goal.returns-in-Some-clause-lines
returns-in-Some-clause-lines c =
    let text = c.args.text.now in
    let none : NoFeedBelow text c.in-Some.end = λ k below is. c.in-Some.ensures.0.before k (omega arith) below (eq-eqb (slice_index text k) 10 is) in
    rw c.split_at.ensures.back
    (lines-first text c.in-Some.end c.in-Some.ensures.0.high (eqb-true (slice_index text c.in-Some.end) 10 c.in-Some.ensures.1) none)

pub returns-in-None-clause-lines : goal.returns-in-None-clause-lines
returns-in-None-clause-lines c =
    let text = c.args.text.now in
    let none : NoFeedBelow text (length text) = λ k below is. c.in-None.ensures k (omega arith) below (eq-eqb (slice_index text k) 10 is) in
    let one = lines-none text c.requires none in
    search (one)
