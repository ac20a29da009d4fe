-- Bounded, so that a wrong body is refused at once.
use Rattle.std.proofs.Common.{rules}
use Rattle.capture.specs.Records.{capture_of}
use Rattle.capture.proofs.listed.without_memory.Goals as goal

pub returns-in-Err : goal.returns-in-Err
unfolding capture_of
returns-in-Err c = search rules fits 30

pub returns-in-Ok : goal.returns-in-Ok
unfolding capture_of
returns-in-Ok c = search rules fits 30
