use Rattle.std.proofs.Common.{◌==◌, ℕ, Bool, List, sym, ap, ◌∙◌}
use Rattle.std.specs.List.{position}
use Rattle.vlan_rule.specs.Entry.{key_of}
use Rattle.vlan_rule.specs.declared.table.Row.{Row}
use Rattle.vlan_rule.proofs.Places.{position-map}
use Rattle.vlan_rule.proofs.table.RuleTable.place.Goals as goal

pub returns : goal.returns
returns c =
    let rows = c.self.inside.rows.items in
    let has_key : List ℕ → Bool = λ e. key_of e == key_of c.args.entry.now.0 in
    c.first_with_key.ensures
    ∙ ap (λ (key : ℕ). position (λ (row : Row). key_of row.entry.0 == key) c.deref.result.now) c.key.ensures
    ∙ ap (position (λ (row : Row). has_key row.entry.0)) c.deref.ensures.value
    ∙ sym (position-map (λ (row : Row). row.entry.0) has_key rows)
    ∙ ap (position has_key) c.self.view_is
