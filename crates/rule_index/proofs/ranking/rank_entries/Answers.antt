use Rattle.std.proofs.Common.{◌++◌, List, length, ap, ◌∙◌, arith, append_assoc, length-append}
use Rattle.rule_index.specs.declared.row.Row.{Row}
use Rattle.rule_index.specs.Order.{rows_from, rows_of}
use Rattle.rule_index.proofs.Found.{no_more_rows, three_ranks}
use Rattle.rule_index.proofs.ranking.rank_entries.Goals as goal

pub add_rank-requires : goal.add_rank-requires
add_rank-requires c =
    omega (arith, three_ranks 0 c.args.table.now, ap (λ (r : List Row). length r) c.clear.ensures.items, c.requires.limit, c.requires.room, c.clear.ensures.capacity)

pub add_rank-requires-2 : goal.add_rank-requires-2
add_rank-requires-2 c =
    let table = c.args.table.now in
    let is = c.add_rank.ensures.rows ∙ ap (λ (r : List Row). r ++ rows_from 0 0 table) c.clear.ensures.items in
    omega (arith, three_ranks 0 table, ap (λ (r : List Row). length r) is, c.requires.limit, c.requires.room, c.add_rank.ensures.room, c.clear.ensures.capacity)

pub add_rank-requires-3 : goal.add_rank-requires-3
add_rank-requires-3 c =
    let table = c.args.table.now in
    let is = c.add_rank.ensures.rows ∙ ap (λ (r : List Row). r ++ rows_from 0 0 table) c.clear.ensures.items in
    let then = c.add_rank-2.ensures.rows ∙ ap (λ (r : List Row). r ++ rows_from 1 0 table) is in
    omega (arith, three_ranks 0 table, ap (λ (r : List Row). length r) then, length-append (rows_from 0 0 table) (rows_from 1 0 table), c.requires.limit, c.requires.room, c.add_rank.ensures.room, c.add_rank-2.ensures.room, c.clear.ensures.capacity)

pub returns-clause-rows : goal.returns-clause-rows
unfolding rows_of
returns-clause-rows c =
    let table = c.args.table.now in
    let is = c.add_rank.ensures.rows ∙ ap (λ (r : List Row). r ++ rows_from 0 0 table) c.clear.ensures.items in
    let then = c.add_rank-2.ensures.rows ∙ ap (λ (r : List Row). r ++ rows_from 1 0 table) is in
    c.add_rank-3.ensures.rows ∙ ap (λ (r : List Row). r ++ rows_from 2 0 table) then ∙ append_assoc (rows_from 0 0 table) (rows_from 1 0 table) (rows_from 2 0 table)

pub returns-clause-few : goal.returns-clause-few
returns-clause-few c = omega (arith, ap (λ (r : List Row). length r) (returns-clause-rows c), no_more_rows c.args.table.now, c.requires.limit)
