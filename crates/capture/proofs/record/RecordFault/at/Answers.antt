-- Bounded, so that a wrong body is refused at once.
use Rattle.std.proofs.Common.{rules}
use Rattle.capture.proofs.record.RecordFault.at.Goals as goal

pub returns-in-Torn : goal.returns-in-Torn
returns-in-Torn c = search rules fits 30
