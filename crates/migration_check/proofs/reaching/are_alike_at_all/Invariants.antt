use Rattle.std.proofs.Common.{take}
use Rattle.std.specs.Prelude.{All}
use Rattle.migration_check.specs.Migration.{IsSeenAlikeAt}
use Rattle.migration_check.specs.Telling.{Tells}
use Rattle.migration_check.proofs.reaching.are_alike_at_all.Given as goal

-- what is told of the ports that were looked at
abbrev pub invariant-loop-port : goal.invariant-loop-port
invariant-loop-port l =
    Tells l.are_alike (All (IsSeenAlikeAt l.one.entities l.other.entities) (take l.port-index l.ports))
