-- Bounded, so that a wrong body is refused at once.
use Rattle.std.proofs.Common.{rules}
use Rattle.capture.proofs.fault.CaptureFault.code.Goals as goal

pub returns-in-Link : goal.returns-in-Link
returns-in-Link c = search rules fits 30
