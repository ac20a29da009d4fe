use Rattle.std.proofs.Common.{◌≡◌, ◌≤◌, take}
use Rattle.rule_index.specs.Order.{up_to_rank}
use Rattle.rule_index.proofs.ranking.count_up_to.Given as goal

abbrev pub invariant-loop-place : goal.invariant-loop-place
invariant-loop-place l = record {
  value : l.counted ≡ up_to_rank l.rank (take l.place l.table);
  limit : l.counted ≤ l.place;
}
