-- Each turn passes one whole record.
use Rattle.std.proofs.Common.{◌∙◌, length, sym}
use Rattle.std.proofs.lemmas.Bool.{eqb-true}
use Rattle.capture_pieces.specs.CutFrames.{all_cut_in, counted}
use Rattle.capture_pieces.proofs.Cuts.{byte_is, counted_all, counted_more, cut_empty, cut_none}
use Rattle.capture_pieces.proofs.counting.count_whole.Goals as goal

pub returns-in_default : goal.returns-in_default
returns-in_default c =
    counted_all c.loop-rest.cut (all_cut_in c.args.order c.loop-rest.rest.now) (counted (all_cut_in c.args.order c.args.bytes.now))
    (cut_none c.args.order c.loop-rest.rest.now c.in_default.field-0 (sym c.in_default.ensures.fault)) c.loop-rest.invariant.few c.loop-rest.invariant.all

pub loop-rest-preserved : goal.loop-rest-preserved
loop-rest-preserved c =
    let whole = sym c.in-Ok.ensures.fault in
    let more = counted_more c.loop-rest.cut c.from.result c.saturating_add-cut.result c.is_cut.result (counted (all_cut_in c.args.order c.args.bytes.now)) c.args.order
    c.loop-rest.rest.now c.in-Ok.behind.now whole c.in-Ok.ensures.behind (c.is_cut.ensures whole) (c.from.ensures ∙ byte_is c.is_cut.result) c.saturating_add-cut.ensures c.loop-rest.invariant.all in
    record { all = more; few = c.saturating_add-cut.type_inv }

pub returns : goal.returns
returns c =
    let none = eqb-true (length c.loop-rest.rest.now) 0 (sym c.is_empty.ensures ∙ c.loop-rest-test.false) in
    counted_all c.loop-rest.cut (all_cut_in c.args.order c.loop-rest.rest.now) (counted (all_cut_in c.args.order c.args.bytes.now))
    (cut_empty c.args.order c.loop-rest.rest.now none) c.loop-rest.invariant.few c.loop-rest.invariant.all
