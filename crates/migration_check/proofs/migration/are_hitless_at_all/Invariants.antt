use Rattle.std.proofs.Common.{take}
use Rattle.std.specs.Prelude.{All}
use Rattle.migration_check.specs.Migration.{AreHitlessAt}
use Rattle.migration_check.proofs.migration.are_hitless_at_all.Given as goal

-- none is torn at the ports that were looked at
abbrev pub invariant-loop-place : goal.invariant-loop-place
invariant-loop-place l = All (AreHitlessAt l.before.entities l.requests l.end.entities) (take l.place l.ports)
