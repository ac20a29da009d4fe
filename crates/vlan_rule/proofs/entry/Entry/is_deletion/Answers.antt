use Rattle.std.proofs.Common.{ℕ, nat_eq, ap, ◌∙◌}
use Rattle.byteorder.specs.Endian.{big_number}
use Rattle.tag_view.proofs.Bytes.{big_from-drop}
use Rattle.vlan_rule.specs.Table.{is_deletion}
use Rattle.vlan_rule.proofs.entry.Entry.is_deletion.Goals as goal

pub returns : goal.returns
unfolding is_deletion
returns c =
    let number = c.read_u64.ensures ∙ ap (big_number 8) c.split_at.ensures.back ∙ big_from-drop 0 8 8 c.args.self.now.0 in
    ap (λ (n : ℕ). nat_eq n 18446744073709551615) number
