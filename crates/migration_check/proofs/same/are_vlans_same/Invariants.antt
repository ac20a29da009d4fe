use Rattle.std.proofs.Common.{◌≡◌, ◌<◌, ℕ}
use Rattle.mib_state.specs.Entities.{find}
use Rattle.migration_check.proofs.same.are_vlans_same.Given as goal

-- the numbers up to here are found alike
abbrev pub invariant-loop-number : goal.invariant-loop-number
invariant-loop-number l = (n : ℕ) → n < l.number → find n l.one.entities.vlans ≡ find n l.other.entities.vlans
