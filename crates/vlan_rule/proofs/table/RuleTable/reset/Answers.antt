use Rattle.std.proofs.Common.{ℕ, List, ap, ◌∙◌}
use Rattle.vlan_rule.specs.Entry.{entry_of, key_of, kind_of, number_of, refusal_of, value_of}
use Rattle.vlan_rule.specs.Table.{is_deletion, left_by, put}
use Rattle.vlan_rule.proofs.table.RuleTable.reset.Goals as goal

pub returns : goal.returns
unfolding key_of kind_of number_of refusal_of value_of is_deletion put
returns c =
    let with : List ℕ → List (List ℕ) → List (List ℕ) = λ new entries. left_by entries (put entries new) in
    let first = entry_of 0xF0000000F0000000 0x000F0000000F0000 in
    let second = entry_of 0xF0000000E0000000 0x000F0000000F0000 in
    let third = entry_of 0xE0000000E0000000 0x000F0000000F0000 in
    c.put-3.ensures.after
    ∙ ap (with third) (c.put-2.ensures.after ∙ ap (with second) (c.put.ensures.after ∙ ap (with first) c.clear.ensures))
