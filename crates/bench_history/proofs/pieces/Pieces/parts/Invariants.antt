use Rattle.std.proofs.Common.{◌≡◌, ◌++◌, drop}
use Rattle.std.specs.List.{flat_map}
use Rattle.bench_history.specs.Borders.{text_of}
use Rattle.bench_history.proofs.pieces.Pieces.parts.Given as goal

-- the parts so far, and behind them the pieces that are left
abbrev pub invariant-each_piece : goal.invariant-each_piece
invariant-each_piece l = flat_map (λ part. part.now) l.parts.items ++ text_of (drop l.piece-index l.piece-items) ≡ text_of l.piece-items
