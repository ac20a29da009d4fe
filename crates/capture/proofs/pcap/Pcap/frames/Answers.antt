-- Bounded, so that a wrong body is refused at once.
use Rattle.std.proofs.Common.{rules}
use Rattle.capture.proofs.pcap.Pcap.frames.Goals as goal

pub returns-clause-all : goal.returns-clause-all
returns-clause-all c = search rules fits 30

pub returns-clause-few : goal.returns-clause-few
returns-clause-few c = search rules fits 30
