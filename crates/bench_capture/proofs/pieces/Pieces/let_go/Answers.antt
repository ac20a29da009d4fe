-- What is let go changes nothing that is to be read.
use Rattle.std.proofs.Common.{sym}
use Rattle.bench_capture.proofs.Taking.{past_goes, past_kept, past_within}
use Rattle.bench_capture.proofs.pieces.Pieces.let_go.Goals as goal

pub returns-clause-goes : goal.returns-clause-goes
returns-clause-goes c = (
  past_within c.args.self.now.blocks c.args.self.now.passing c.args.bytes.now c.in_ok-past.past (sym c.in_ok-past.ensures.value),
  λ more. past_goes c.args.self.now.blocks c.args.self.now.passing c.args.bytes.now more c.in_ok-past.past (sym c.in_ok-past.ensures.value),
)

pub returns-clause-kept : goal.returns-clause-kept
returns-clause-kept c = λ few.
    past_kept c.args.self.now.blocks c.args.self.now.passing c.args.bytes.now c.in_ok-past.past (sym c.in_ok-past.ensures.value) few
