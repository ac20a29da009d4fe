-- Bounded, so that a wrong body is refused at once.
use Rattle.frame_meaning.specs.Meaning.{input_tpid_of}
use Rattle.std.proofs.Common.{rules}
use Rattle.frame_meaning.proofs.table.input_tpid.Goals as goal

pub returns-in-None : goal.returns-in-None
unfolding input_tpid_of
returns-in-None c = search rules fits 30

pub returns-in-Some : goal.returns-in-Some
unfolding input_tpid_of
returns-in-Some c = search rules fits 30
