use Rattle.std.proofs.Common.{◌≡◌, ◌+◌, ◌++◌, length, take, vec_len, vec_capacity}
use Rattle.rule_index.specs.Order.{rows_from}
use Rattle.rule_index.proofs.ranking.add_rank.Given as goal

abbrev pub invariant-loop-place : goal.invariant-loop-place
invariant-loop-place l = record {
  rows : l.rows.items ≡ l.initial.rows.items ++ rows_from l.rank 0 (take l.place l.table);
  room : vec_capacity l.rows ≡ vec_capacity l.initial.rows;
  len : vec_len l.rows ≡ vec_len l.initial.rows + length (rows_from l.rank 0 (take l.place l.table));
}
