use Rattle.std.proofs.Common.{◌≡◌, ◌<◌, ◌≤◌, ℕ}
use Rattle.frame_classes.specs.Told.{side_by}
use Rattle.migration_check.specs.Following.{IsWholeBy}
use Rattle.migration_check.specs.Migration.{IsHitlessAt, version}
use Rattle.migration_check.proofs.migration.are_hitless_at.Given as goal

-- what is here, that nothing was torn so far, and what the last rows are
abbrev pub invariant-loop-place : goal.invariant-loop-place
invariant-loop-place l = record {
  here : l.here.entities ≡ version l.before.entities l.requests l.place;
  whole : (count : ℕ) → 0 < count → count ≤ l.place → IsHitlessAt l.before.entities (version l.before.entities l.requests count) l.after.entities l.port;
  last : IsWholeBy l.before.entities l.after.entities l.port (side_by l.last);
}
