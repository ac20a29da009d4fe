use Rattle.std.proofs.Common.{map}
use Rattle.vlan_rule.specs.Best.{IsBest}
use Rattle.vlan_rule.specs.Choice.{matches}
use Rattle.vlan_rule.specs.declared.table.Row.{Row}
use Rattle.vlan_rule.proofs.walk.best.Given as goal

abbrev pub invariant-loop-place : goal.invariant-loop-place
invariant-loop-place l = IsBest (matches l.input_tpid l.tags l.ethertype) (map (λ (row : Row). row.entry.0) l.rows) l.place l.best
