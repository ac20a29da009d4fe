use Rattle.std.proofs.Common.{◌<◌, ℕ, slice_index, ◌∙◌, sym, arith}
use Rattle.std.proofs.lemmas.Bool.{eqb-true}
use Rattle.vlan_rule.specs.Entry.{key_of}
use Rattle.rule_index.proofs.Alike.{alike}
use Rattle.rule_index.proofs.entries.have_one_key.Goals as goal

pub returns : goal.returns
unfolding key_of
returns c = λ same.
    let one : (i : ℕ) → slice_index c.args.one.now i < 256 = λ i. omega (arith, c.type_inv.one i) in
    let other : (i : ℕ) → slice_index c.args.other.now i < 256 = λ i. omega (arith, c.type_inv.other i) in
    alike c.args.one.now c.args.other.now one other (sym c.read_u64.ensures ∙ eqb-true _ _ same ∙ c.read_u64-2.ensures)
