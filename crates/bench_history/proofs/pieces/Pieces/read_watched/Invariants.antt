use Rattle.std.proofs.Common.{◌≡◌, [], drop}
use Rattle.bench_history.specs.History.{events_from}
use Rattle.bench_history.specs.Borders.{lines_in}
use Rattle.bench_history.specs.Seen.{IsSeen}
use Rattle.bench_history.proofs.pieces.Pieces.read_watched.Given as goal

-- the pieces read give the events so far
abbrev pub invariant-each_piece : goal.invariant-each_piece
invariant-each_piece g l = record {
  so_far : events_from [] (lines_in l.piece-items) ≡ events_from l.reading.events.items (lines_in (drop l.piece-index l.piece-items));
  kept : IsSeen l.reading.events.items l.reading.seen;
}
