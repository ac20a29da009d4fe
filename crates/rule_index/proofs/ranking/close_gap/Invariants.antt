use Rattle.std.proofs.Common.{◌≡◌, ◌++◌, length, map, take, drop}
use Rattle.rule_index.specs.Order.{lowered}
use Rattle.rule_index.proofs.ranking.close_gap.Given as goal

abbrev pub invariant-loop-number : goal.invariant-loop-number
invariant-loop-number l = record {
  len : length l.rows ≡ length l.initial.rows;
  rows : l.rows ≡ map (λ row. lowered l.place row) (take l.number l.initial.rows) ++ drop l.number l.initial.rows;
}
