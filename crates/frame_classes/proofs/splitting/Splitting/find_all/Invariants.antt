use Rattle.std.proofs.Common.{◌≡◌, ◌<◌, length}
use Rattle.std.specs.Prelude.{All}
use Rattle.frame_classes.proofs.AllRows.{ArePlaces}
use Rattle.frame_classes.proofs.splitting.Splitting.find_all.Given as goal

-- the rows so far
abbrev pub invariant-loop-place : goal.invariant-loop-place
invariant-loop-place l =
    record {
      places : ArePlaces l.self.sides.now.rows.now l.place l.left;
      count : length l.left ≡ l.place;
      order : All (λ place. place < l.place) l.left;
    }
