use Rattle.std.proofs.Common.{take}
use Rattle.text_every_frame.specs.Same.{IsSaidOf}
use Rattle.text_every_frame.proofs.comparing.write_ports.Given as goal

-- what is said of the ports that were looked at
abbrev pub invariant-loop-port : goal.invariant-loop-port
invariant-loop-port g l = IsSaidOf l.compared.before.mib.now.entities l.compared.after.mib.now.entities l.least (take l.port-index l.ports) l.is_same
