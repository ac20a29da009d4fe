use Rattle.std.proofs.Common.{◌≡◌, ◌-◌, ◌*◌, ◌/◌, ◌%◌, ◌^◌, ◌<◌, ℕ, arith, ap, sym, slice_index, ◌∙◌}
use Rattle.byteorder.specs.Endian.{big_number}
use Rattle.tag_view.proofs.Bytes.{bytes_within}
use Rattle.vlan_rule.specs.Entry.{number_of}
use Rattle.vlan_rule.proofs.entry.word.Goals as goal

pub returns : goal.returns
unfolding number_of
returns c =
    let n = c.args.number in
    let entry = c.args.entry.now in
    let behind : 8 * (12 - 4 * (n - 1)) ≡ 32 * (4 - n) = omega arith in
    let bytes : (i : ℕ) → slice_index entry i < 256 = λ i. omega (arith, c.type_inv.entry i) in
    let word = bytes_within (4 * (n - 1)) 4 (12 - 4 * (n - 1)) 16 entry (omega arith) bytes in
    c.read_u32.ensures
    ∙ ap (big_number 4) c.split_at.ensures.back
    ∙ sym word
    ∙ ap (λ (k : ℕ). big_number 16 entry / 2 ^ k % 2 ^ 32) behind
