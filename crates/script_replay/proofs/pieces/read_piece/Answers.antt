-- Bounded, so that a wrong body is refused at once.
use Rattle.std.proofs.Common.{rules}
use Rattle.script_replay.proofs.pieces.read_piece.Goals as goal

pub returns-clause-end : goal.returns-clause-end
returns-clause-end c = search rules fits 100
