-- Bounded, so that a wrong body is refused at once.
use Rattle.std.proofs.Common.{rules}
use Rattle.capture.proofs.pcap.Pcap.len.Goals as goal

pub returns : goal.returns
returns c = search rules fits 30
