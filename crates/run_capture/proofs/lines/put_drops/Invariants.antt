use Rattle.std.proofs.Common.{◌≡◌, ◌+◌, ◌-◌, ◌++◌}
use Rattle.run_capture.proofs.Totals.{drops_from}
use Rattle.run_capture.proofs.lines.put_drops.Given as goal

-- the lines so far and those of the reasons that are left are all
abbrev pub invariant-loop-place : goal.invariant-loop-place
invariant-loop-place l = l.text.items ++ drops_from (9 - l.place) (l.place + 1) l.counts.drops ≡ l.fn.text.items ++ drops_from 9 1 l.counts.drops
