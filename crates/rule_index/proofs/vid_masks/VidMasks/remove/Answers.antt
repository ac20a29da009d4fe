use Rattle.std.proofs.Common.{◌≡◌, ◌<◌, ◌+◌, ℕ, List, length, get_or, ap, ◌∙◌, arith}
use Rattle.rule_index.specs.Masks.{without_bit}
use Rattle.rule_index.proofs.Moving.{vids-remove, written}
use Rattle.rule_index.proofs.vid_masks.VidMasks.remove.Goals as goal

pub returns : goal.returns
returns c = λ before after filter at is.
    let self = c.args.self.now in
    let new = c.remove_bits.new.masks in
    let same : length new ≡ self.masks.len = omega (arith, c.remove_bits.ensures.len, c.deref_mut.ensures.len) in
    let moved : (k : ℕ) → k < self.named + 1 → get_or new k 0 ≡ without_bit c.args.place (get_or self.masks.items k 0) =
    λ k h. c.remove_bits.ensures.each k h ∙ ap (λ (l : List ℕ). without_bit c.args.place (get_or l k 0)) c.deref_mut.ensures.value in
    rw (written new self.masks.items self.masks.len same)
    (vids-remove self.class.items self.masks.items new before filter after c.args.place self.named at self.below moved is)
