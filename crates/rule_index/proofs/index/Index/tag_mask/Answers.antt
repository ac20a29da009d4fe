use Rattle.std.proofs.Common.{◌≡◌, ◌==◌, ℕ, ◌∙◌, ap}
use Rattle.rule_index.specs.declared.row.Row.{Row}
use Rattle.rule_index.specs.Masks.{mask_of}
use Rattle.rule_index.specs.Filters.{tags_in}
use Rattle.rule_index.specs.Order.{rows_of}
use Rattle.rule_index.specs.Readers.{has_tags, mask_in_order}
use Rattle.rule_index.proofs.Reading.{bits, in-order, no-mask, row-tags, too-many}
use Rattle.rule_index.proofs.index.Index.tag_mask.Goals as goal

pub returns-then-tags-gt2 : goal.returns-then-tags-gt2
returns-then-tags-gt2 c =
    let none : 0 ≡ mask_in_order (has_tags c.args.tags) c.args.self.now = no-mask (has_tags c.args.tags) c.args.self.now (λ e. too-many c.args.tags e c.if-tags-gt2.true) in
    record { bits = bits (has_tags c.args.tags) c.args.self.now 0 none; value = none }

pub returns : goal.returns
returns c =
    let rows = c.self.inside.rows.items in
    let by : ℕ → ℕ = λ tags. mask_of (λ (row : Row). tags_in row.filter == tags) rows in
    let is : c.tag_mask.result ≡ mask_in_order (has_tags c.args.tags) c.args.self.now =
    in-order (λ (row : Row). tags_in row.filter == c.args.tags) (has_tags c.args.tags) (row-tags c.args.tags)
    c.args.self.now rows c.tag_mask.result (c.self.invariant.2.in_order ∙ ap rows_of c.self.view_is)
    (c.tag_mask.ensures rows c.self.invariant.2.built ∙ ap by c.from.ensures) in
    record { bits = bits (has_tags c.args.tags) c.args.self.now c.tag_mask.result is; value = is }
