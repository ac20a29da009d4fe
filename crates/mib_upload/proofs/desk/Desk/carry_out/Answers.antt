-- Bounded, so that a wrong body is refused at once.
use Rattle.std.proofs.Common.{rules}
use Rattle.mib_upload.proofs.desk.Desk.carry_out.Goals as goal

pub returns-clause-after : goal.returns-clause-after
returns-clause-after c = search rules fits 30

pub returns-clause-reply : goal.returns-clause-reply
returns-clause-reply c = search rules fits 30

pub returns-in_default : goal.returns-in_default
returns-in_default c = search rules fits 30
