use Rattle.std.proofs.Common.{List, map, ap, ◌∙◌}
use Rattle.std.specs.List.{remove}
use Rattle.vlan_rule.specs.declared.table.Row.{Row}
use Rattle.vlan_rule.proofs.Places.{map-remove}
use Rattle.vlan_rule.proofs.table.RuleTable.remove.Goals as goal

pub returns : goal.returns
returns c =
    ap (map (λ (row : Row). row.entry.0)) c.remove.ensures.items
    ∙ map-remove (λ (row : Row). row.entry.0) c.self.inside.rows.items c.args.at
    ∙ ap (λ (entries : List _). remove entries c.args.at) c.self.view_is
