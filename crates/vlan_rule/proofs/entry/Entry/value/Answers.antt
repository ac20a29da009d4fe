use Rattle.std.proofs.Common.{◌≡◌, ◌≤◌, ◌<◌, ◌+◌, ◌-◌, ◌*◌, ◌/◌, ◌%◌, ◌^◌, ℕ, List, arith, ap, ◌∙◌}
use Rattle.std.proofs.lemmas.Nat.{one_shl}
use Rattle.tag_view.proofs.Bytes.{bits_within}
use Rattle.vlan_rule.specs.Entry.{number_of, value_of}
use Rattle.vlan_rule.specs.declared.layout.Field.{Field}
use Rattle.vlan_rule.proofs.entry.Entry.value.Goals as goal

-- the field of a word
value_in_word : (at : Field) (entry : List ℕ) → at.low ≤ at.high → at.high < 32
    → number_of entry / 2 ^ (32 * (4 - at.word)) % 2 ^ 32 / 2 ^ at.low % 2 ^ (at.high + 1 - at.low) ≡ value_of at entry
unfolding value_of
value_in_word at entry ordered high =
    let width = at.high + 1 - at.low in
    let above = 32 * (4 - at.word) in
    let whole : 32 ≡ 31 - at.high + width + at.low = omega arith in
    ap (λ (w : ℕ). number_of entry / 2 ^ above % 2 ^ w / 2 ^ at.low % 2 ^ width) whole
    ∙ bits_within (number_of entry) above (31 - at.high) width at.low

pub returns-clause-value : goal.returns-clause-value
returns-clause-value c =
    let at = c.args.at in
    let mask = one_shl (at.high + 1 - at.low) 32 (omega arith) in
    ap (λ (m : ℕ). c.word.result / 2 ^ at.low % m) mask
    ∙ ap (λ (word : ℕ). word / 2 ^ at.low % 2 ^ (at.high + 1 - at.low)) c.word.ensures
    ∙ value_in_word at c.args.self.now.0 (omega arith) (omega arith)
