use Rattle.std.proofs.Common.{◌==◌, ◌||◌, ◌∙◌, Bool, ℕ, ap₂, arith}
use Rattle.std.proofs.lemmas.List.{get_or-set_other, length-set}
use Rattle.rule_index.specs.Masks.{with_bit}
use Rattle.rule_index.proofs.Moving.{moved-next}
use Rattle.rule_index.proofs.bit.insert_bits.Goals as goal

pub loop-k-preserved : goal.loop-k-preserved
loop-k-preserved c =
    let now = c.loop-k.masks in
    let k = c.loop-k.k in
    let invariant = c.loop-k.invariant in
    record {
      len = length-set now k c.with_bit.result ∙ invariant.len;
      done = moved-next (λ k m. with_bit c.args.place (c.args.all || c.args.key == k) m) c.args.masks.now now k c.with_bit.result (omega (arith, invariant.len))
          (c.with_bit.ensures ∙ ap₂ (λ (b : Bool) (m : ℕ). with_bit c.args.place b m) c.is_set.ensures (invariant.rest k (omega arith))) invariant.done;
      rest = λ j h. get_or-set_other now k j c.with_bit.result 0 (λ e. omega (arith, e, h)) ∙ invariant.rest j (omega (arith, h));
    }
