use Rattle.std.proofs.Common.{◌≡◌, length, take}
use Rattle.frame_sameness.proofs.equal.are_same_asks.Given as goal

-- those that were looked at are the same
abbrev pub invariant-loop-place : goal.invariant-loop-place
invariant-loop-place l = take l.place l.asks ≡ take l.place l.others
