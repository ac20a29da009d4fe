use Rattle.std.proofs.Common.{ℕ, List, ◌≤◌, arith, length, subst}
use Rattle.std.proofs.lemmas.Grind.{common_steps}
use Rattle.std.proofs.lemmas.List.{take_all}
use Rattle.text_expectations.specs.declared.reading.ExpectedLine.{ExpectedLine}
use Rattle.text_outcomes.specs.Said.{IsSaid, IsSaidOf}
use Rattle.text_outcomes.proofs.Saying.{said_more}
use Rattle.text_outcomes.proofs.writing.write_last.Goals as goal

pub loop-expected-preserved : goal.loop-expected-preserved
loop-expected-preserved g c =
    let line = c.expected-item.result in
    let here = subst (λ (n : ℕ). IsSaid c.args.mib.now.entities n line.expectation c.in_ok-held.held) c.from.ensures c.in_ok-held.ensures in
    said_more c.args.mib.now.entities c.args.asked.now.least c.args.asked.now.lines.now c.loop-expected.expected-index line c.loop-expected-test.true
    c.expected-item.is c.loop-expected.hold c.in_ok-held.held c.are_both-hold.result c.are_both-hold.ensures c.loop-expected.invariant here

pub returns : goal.returns
returns g c =
    let past : length c.args.asked.now.lines.now ≤ c.loop-expected.expected-index = grind (arith, common_steps) in
    subst (λ (lines : List ExpectedLine). IsSaidOf c.args.mib.now.entities c.args.asked.now.least lines c.loop-expected.hold)
    (take_all c.loop-expected.expected-index c.args.asked.now.lines.now past) c.loop-expected.invariant
