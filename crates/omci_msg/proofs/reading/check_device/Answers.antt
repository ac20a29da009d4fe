-- Bounded, so that a wrong body is refused at once.
use Rattle.std.proofs.Common.{rules}
use Rattle.omci_msg.proofs.reading.check_device.Goals as goal

pub returns-in-10-clause-baseline : goal.returns-in-10-clause-baseline
returns-in-10-clause-baseline c = search rules fits 30
