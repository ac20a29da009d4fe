use Rattle.std.proofs.Common.{◌++◌, List, map, set, ap, ap₂, ◌∙◌, arith, append-nil}
use Rattle.std.proofs.lemmas.List.{drop_all, get_or_default, length-set, take_all}
use Rattle.std.proofs.lemmas.List.Edits.{map_over_more}
use Rattle.rule_index.specs.declared.row.Row.{Row}
use Rattle.rule_index.specs.Order.{lowered}
use Rattle.rule_index.proofs.ranking.close_gap.Goals as goal

pub loop-number-preserved : goal.loop-number-preserved
loop-number-preserved c =
    let now = c.loop-number.rows in
    let n = c.loop-number.number in
    let invariant = c.loop-number.invariant in
    record {
      len = length-set now n c.lowered.result ∙ invariant.len;
      rows = ap (set now n) c.lowered.ensures
          ∙ map_over_more (λ row. lowered c.args.place row) c.args.rows.now now n _ (omega (arith, invariant.len)) invariant.rows (get_or_default now n _ _ (omega arith));
    }

pub returns : goal.returns
returns c =
    let old = c.args.rows.now in
    let n = c.loop-number.number in
    c.loop-number.invariant.rows
    ∙ ap₂ (λ (a b : List Row). map (λ row. lowered c.args.place row) a ++ b) (take_all n old (omega (arith, c.loop-number.invariant.len))) (drop_all n old (omega (arith, c.loop-number.invariant.len)))
    ∙ append-nil (map (λ row. lowered c.args.place row) old)
