-- Bounded, so that a wrong body is refused at once.
use Rattle.std.proofs.Common.{arith, rules, length-take}
use Rattle.frame_meaning.proofs.out_frame.OutFrame.addresses.Goals as goal

pub returns-clause-value : goal.returns-clause-value
returns-clause-value c = search rules fits 30

pub returns-clause-twelve : goal.returns-clause-twelve
returns-clause-twelve c = simp length-take (omega arith)
