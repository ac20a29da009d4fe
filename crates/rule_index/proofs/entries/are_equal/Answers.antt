use Rattle.std.proofs.Common.{◌<◌, ℕ, List, slice_index, ap, ◌∙◌, sym, arith}
use Rattle.std.proofs.lemmas.Bool.{eq-eqb, eqb-true}
use Rattle.byteorder.specs.Endian.{big_number}
use Rattle.rule_index.proofs.Following.{same_bytes}
use Rattle.rule_index.proofs.entries.are_equal.Goals as goal

pub returns : goal.returns
returns c =
    let one : (i : ℕ) → slice_index c.args.one.now i < 256 = λ i. omega (arith, c.type_inv.one i) in
    let other : (i : ℕ) → slice_index c.args.other.now i < 256 = λ i. omega (arith, c.type_inv.other i) in
    let number : List ℕ → ℕ = λ bytes. big_number 16 bytes in (
      λ same. same_bytes c.args.one.now c.args.other.now c.requires.one c.requires.other one other
          (sym c.read_u128.ensures ∙ eqb-true _ _ same ∙ c.read_u128-2.ensures),
      λ same. eq-eqb _ _ (c.read_u128.ensures ∙ ap number same ∙ sym c.read_u128-2.ensures),
    )
