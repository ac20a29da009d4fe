-- Bounded, so that a wrong body is refused at once.
use Rattle.std.proofs.Common.{rules}
use Rattle.plan_publish.proofs.fault.OpenFault.code.Goals as goal

pub returns-in-Refused : goal.returns-in-Refused
returns-in-Refused c = search rules fits 30
