use Rattle.std.proofs.Common.{◌≡◌, ap, ◌∙◌}
use Rattle.rule_index.specs.Order.{rows_of}
use Rattle.rule_index.proofs.Found.{numbered, none_numbered}
use Rattle.rule_index.proofs.index.Index.number.Goals as goal

pub returns-clause-used : goal.returns-clause-used
returns-clause-used c =
    let entries = c.args.self.now in
    let rows = c.self.inside.rows.items in
    let head = c.args.head.now in
    let of_entries : rows ≡ rows_of entries = c.self.invariant.2.in_order ∙ ap rows_of c.self.view_is in
    numbered entries rows c.args.input_tpid head.type head.tags c.mask.result of_entries c.self.invariant.2.few (c.mask.ensures rows c.self.invariant.2.built)

pub returns-clause-none : goal.returns-clause-none
returns-clause-none c = λ none.
    let entries = c.args.self.now in
    let rows = c.self.inside.rows.items in
    let head = c.args.head.now in
    let of_entries : rows ≡ rows_of entries = c.self.invariant.2.in_order ∙ ap rows_of c.self.view_is in
    none_numbered entries rows c.args.input_tpid head.type head.tags c.mask.result of_entries c.self.invariant.2.few (c.mask.ensures rows c.self.invariant.2.built) none
