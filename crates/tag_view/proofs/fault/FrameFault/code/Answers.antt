-- Bounded, so that a wrong body is refused at once.
use Rattle.std.proofs.Common.{rules}
use Rattle.tag_view.proofs.fault.FrameFault.code.Goals as goal

pub returns-in-CutTag : goal.returns-in-CutTag
returns-in-CutTag c = search rules fits 30
