use Rattle.std.proofs.Common.{◌≡◌, ◌∙◌, ap}
use Rattle.rule_index.specs.declared.row.Row.{Row}
use Rattle.rule_index.specs.Filters.{admits_vid, inner_in}
use Rattle.rule_index.specs.Order.{rows_of}
use Rattle.rule_index.specs.Readers.{has_inner_vid, mask_in_order}
use Rattle.rule_index.proofs.Reading.{bits, in-order, row-vid}
use Rattle.rule_index.proofs.index.Index.inner_vid_mask.Goals as goal

pub returns : goal.returns
returns c =
    let is : c.inner_vid_mask.result ≡ mask_in_order (has_inner_vid c.args.vid) c.args.self.now =
    in-order (λ (row : Row). admits_vid c.args.vid (inner_in row.filter).vid) (has_inner_vid c.args.vid) (row-vid c.args.vid)
    c.args.self.now c.self.inside.rows.items c.inner_vid_mask.result (c.self.invariant.2.in_order ∙ ap rows_of c.self.view_is)
    (c.inner_vid_mask.ensures c.self.inside.rows.items c.self.invariant.2.built) in
    record { bits = bits (has_inner_vid c.args.vid) c.args.self.now c.inner_vid_mask.result is; value = is }
