use Rattle.std.proofs.Common.{◌∙◌, ap, arith}
use Rattle.std.proofs.lemmas.List.{get_or-set_other, length-set}
use Rattle.rule_index.specs.Masks.{without_bit}
use Rattle.rule_index.proofs.Moving.{moved-next}
use Rattle.rule_index.proofs.bit.remove_bits.Goals as goal

pub loop-k-preserved : goal.loop-k-preserved
loop-k-preserved c =
    let now = c.loop-k.masks in
    let k = c.loop-k.k in
    let invariant = c.loop-k.invariant in
    record {
      len = length-set now k c.without_bit.result ∙ invariant.len;
      done = moved-next (λ k m. without_bit c.args.place m) c.args.masks.now now k c.without_bit.result (omega (arith, invariant.len))
          (c.without_bit.ensures ∙ ap (without_bit c.args.place) (invariant.rest k (omega arith))) invariant.done;
      rest = λ j h. get_or-set_other now k j c.without_bit.result 0 (λ e. omega (arith, e, h)) ∙ invariant.rest j (omega (arith, h));
    }
