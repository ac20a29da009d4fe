use Rattle.text_outcomes.proofs.writing.write_one.Goals as goal

pub returns : goal.returns
returns g c = c.holds-held.ensures c.args.mib.now.entities c.args.expected.now.expectation c.args.least c.in_ok-outcome.ensures
