-- The first twelve bytes are twelve.
use Rattle.std.proofs.Common.{length-take, arith, rules}
use Rattle.tag_view.proofs.frame.FrameView.addresses.Goals as goal

pub returns-clause-len : goal.returns-clause-len
returns-clause-len c = simp length-take (omega arith)

-- Bounded, so that a wrong body is refused at once.
pub returns-clause-value : goal.returns-clause-value
returns-clause-value c = search rules fits 30
