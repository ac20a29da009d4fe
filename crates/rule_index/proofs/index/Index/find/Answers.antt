use Rattle.std.proofs.Common.{◌≡◌, ℕ, List, Option, ap, subst, sym, ◌∙◌}
use Rattle.std.specs.Prelude.{slice_get}
use Rattle.std.specs.Option.{option_map}
use Rattle.std.proofs.lemmas.Option.{slice_get-map}
use Rattle.vlan_rule.specs.Choice.{choice, matches, IsChoice}
use Rattle.tag_view.specs.Frame.{type_at}
use Rattle.vlan_rule.proofs.Chosen.{chosen_once}
use Rattle.rule_index.specs.declared.row.Row.{Row}
use Rattle.rule_index.specs.Head.{FrameHead}
use Rattle.rule_index.specs.Order.{rows_of}
use Rattle.rule_index.proofs.index.Index.find.Goals as goal

pub returns-clause-computed : goal.returns-clause-computed
returns-clause-computed c =
    let entries = c.args.self.now in
    let rows = c.self.inside.rows.items in
    let of_entries : rows ≡ rows_of entries = c.self.invariant.2.in_order ∙ ap rows_of c.self.view_is in
    let j = c.number.result in
    let choose : FrameHead → Option ℕ = λ head. choice (matches c.args.input_tpid head.tags head.type) entries in
    c.place_at.ensures
    ∙ ap (λ (rows : List Row). option_map (λ (row : Row). row.place) (slice_get rows j)) (c.deref.ensures.value ∙ of_entries)
    ∙ sym (slice_get-map (λ (row : Row). row.place) (rows_of entries) j)
    ∙ c.number.ensures.used
    ∙ ap choose c.of.ensures

pub returns-clause-used : goal.returns-clause-used
returns-clause-used c =
    let entries = c.args.self.now in
    let frame = c.args.frame.now in
    let type = type_at 0 frame.rest in
    subst (IsChoice (matches c.args.input_tpid frame.tags type) entries) (sym (returns-clause-computed c))
    (chosen_once.computed c.args.input_tpid frame.tags type entries)
