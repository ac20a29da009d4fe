use Rattle.std.proofs.Common.{ℕ, List, ap, sym, ◌∙◌}
use Rattle.vlan_rule.specs.Edit.{edited}
use Rattle.vlan_rule.specs.declared.edit.Edit.{Edit}
use Rattle.vlan_rule.proofs.Places.{left_by_edit}
use Rattle.vlan_rule.proofs.table.RuleTable.put.Goals as goal
use Rattle.vlan_rule.proofs.table.RuleTable.put.Goals.{in-Add, in-Replace, in-Delete, in-Absent}

pub returns-clause-after : goal.returns-clause-after
returns-clause-after c =
    let entries = c.args.self.now in
    let new = c.args.entry.0 in
    let after : Edit → List (List ℕ) = λ e. edited e new entries in
    left_by_edit entries new c.in_ok-edit.edit c.match-edit.self c.in_ok-edit.ensures
    (elim c.match-edit.branch [
      | in-Add w ↦ w.self-is ∙ w.add.ensures ∙ sym (ap after w.in-Add.is)
      | in-Replace w ↦ w.self-is ∙ w.replace.ensures ∙ sym (ap after w.in-Replace.is)
      | in-Delete w ↦ w.self-is ∙ w.remove.ensures ∙ sym (ap after w.in-Delete.is)
      | in-Absent w ↦ w.self-is ∙ sym (ap after w.in-Absent.is)
    ])
