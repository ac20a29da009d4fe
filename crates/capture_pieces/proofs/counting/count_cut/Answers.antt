-- Each turn passes one whole record.
use Rattle.std.proofs.Common.{◌∙◌, length, sym}
use Rattle.std.proofs.lemmas.Bool.{eqb-true}
use Rattle.capture_pieces.specs.CutFrames.{all_cut_in, counted}
use Rattle.capture_pieces.proofs.Cuts.{byte_is, counted_all, counted_more, cut_empty, cut_none}
use Rattle.capture_pieces.proofs.counting.count_cut.Goals as goal

pub returns-in-Err : goal.returns-in-Err
returns-in-Err c =
    counted_all c.loop-order.cut (all_cut_in c.args.order c.loop-order.records) (counted (all_cut_in c.args.order c.args.records.now))
    (cut_none c.args.order c.loop-order.records c.in-Err.field-0 (sym c.in-Err.ensures.fault)) c.loop-order.invariant.few c.loop-order.invariant.all

pub loop-order-preserved : goal.loop-order-preserved
loop-order-preserved c =
    let whole = sym c.in-Ok.ensures.fault in
    let more = counted_more c.loop-order.cut c.from.result c.saturating_add-cut.result c.is_cut-is_cut.result (counted (all_cut_in c.args.order c.args.records.now)) c.args.order
    c.loop-order.records c.pass.new.self whole c.in-Ok.ensures.behind (c.is_cut-is_cut.ensures whole) (c.from.ensures ∙ byte_is c.is_cut-is_cut.result) c.saturating_add-cut.ensures c.loop-order.invariant.all in
    record { all = more; few = c.saturating_add-cut.type_inv }

pub returns : goal.returns
returns c =
    let none = eqb-true (length c.loop-order.records) 0 (sym c.is_empty.ensures ∙ c.loop-order-test.false) in
    counted_all c.loop-order.cut (all_cut_in c.args.order c.loop-order.records) (counted (all_cut_in c.args.order c.args.records.now))
    (cut_empty c.args.order c.loop-order.records none) c.loop-order.invariant.few c.loop-order.invariant.all
