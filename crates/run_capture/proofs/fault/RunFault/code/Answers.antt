use Rattle.std.proofs.Common.{ap, sym}
use Rattle.run_capture.specs.Fault.{number_of_fault}
use Rattle.run_capture.proofs.fault.RunFault.code.Goals as goal

pub returns-in-Capture : goal.returns-in-Capture
returns-in-Capture c = sym (ap number_of_fault c.in-Capture.is)
