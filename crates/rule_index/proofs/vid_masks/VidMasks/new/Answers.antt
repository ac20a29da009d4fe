use Rattle.std.proofs.Common.{◌≡◌, get_or, replicate, arith, ap, ◌∙◌}
use Rattle.std.proofs.lemmas.List.{get_or-replicate}
use Rattle.rule_index.proofs.vid_masks.VidMasks.new.Goals as goal

pub invariant_of-result-clause-below : goal.invariant_of-result-clause-below
invariant_of-result-clause-below c = λ v h.
    let zeros : c.in_ok-vec.field-0.items ≡ replicate 4096 0 = c.in_ok-vec.ensures.items_if_clones_equal (λ y e. e) in
    let none : get_or c.in_ok-vec.field-0.items v 0 ≡ 0 = ap (λ items. get_or items v 0) zeros ∙ get_or-replicate 4096 v 0 0 h in
    omega (arith, none)
