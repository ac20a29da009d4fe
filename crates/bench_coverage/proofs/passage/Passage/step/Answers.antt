use Rattle.std.proofs.Common.{sym}
use Rattle.bench_coverage.proofs.Ready.{stays_last}
use Rattle.bench_coverage.proofs.passage.Passage.step.Goals as goal

-- no request leads to it
pub returns-in_default-clause-passes : goal.returns-in_default-clause-passes
returns-in_default-clause-passes c = stays_last c.args.self.now c.requires.passes (sym c.in_default.ensures)
