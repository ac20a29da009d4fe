use Rattle.std.proofs.Common.{◌≡◌, ◌<◌, ◌⊎◌, ℕ, get_or}
use Rattle.frame_rows.specs.declared.row.Row.{Row}
use Rattle.migration_check.specs.Following.{IsHitlessBy}
use Rattle.migration_check.proofs.following.are_changed_whole.Given as goal

-- those that were looked at are the same, or tear none
abbrev pub invariant-loop-place : goal.invariant-loop-place
invariant-loop-place l =
    (place : ℕ) (d : Row) → place < l.place → (get_or l.last place d ≡ get_or l.next place d)
    ⊎ IsHitlessBy l.moment.before.now.entities l.moment.here.now.entities l.moment.after.now.entities l.moment.port (get_or l.next place d).used
