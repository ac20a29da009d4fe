-- Bounded, so that a wrong body is refused at once.
use Rattle.std.proofs.Common.{rules}
use Rattle.managed_entity.proofs.refusal.Refusal.code.Goals as goal

pub returns-in-UnknownInstance : goal.returns-in-UnknownInstance
returns-in-UnknownInstance c = search rules fits 30
