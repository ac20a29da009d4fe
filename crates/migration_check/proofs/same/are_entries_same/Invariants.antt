use Rattle.std.proofs.Common.{◌≡◌, take}
use Rattle.migration_check.proofs.same.are_entries_same.Given as goal

-- the entries up to here are the same
abbrev pub invariant-loop-place : goal.invariant-loop-place
invariant-loop-place l = take l.place l.one ≡ take l.place l.other
