-- Bounded, so that a wrong body is refused at once.
use Rattle.std.proofs.Common.{rules}
use Rattle.mib_state.proofs.held.HeldInstance.class.Goals as goal

pub returns : goal.returns
returns c = search rules fits 30
