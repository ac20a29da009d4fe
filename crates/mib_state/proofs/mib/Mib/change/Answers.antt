-- Bounded, so that a wrong body is refused at once.
use Rattle.std.proofs.Common.{rules}
use Rattle.mib_state.proofs.mib.Mib.change.Goals as goal

pub returns-in-Create : goal.returns-in-Create
returns-in-Create c = search rules fits 30
