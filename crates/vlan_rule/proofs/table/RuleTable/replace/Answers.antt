use Rattle.std.proofs.Common.{List, ap, slice_set, ◌∙◌}
use Rattle.std.proofs.lemmas.List.{map-set}
use Rattle.vlan_rule.specs.declared.table.Row.{Row}
use Rattle.vlan_rule.proofs.table.RuleTable.replace.Goals as goal

pub returns : goal.returns
returns c =
    map-set (λ (row : Row). row.entry.0) c.self.inside.rows.items c.args.at c.args.row
    ∙ ap (λ (entries : List _). slice_set entries c.args.at c.args.row.entry.0) c.self.view_is
