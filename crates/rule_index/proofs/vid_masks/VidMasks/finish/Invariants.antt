use Rattle.std.proofs.Common.{◌≡◌, ◌≤◌, ◌<◌, ℕ, bit_or, get_or}
use Rattle.rule_index.proofs.vid_masks.VidMasks.finish.Given as goal

abbrev pub invariant-loop-class : goal.invariant-loop-class
invariant-loop-class l = record {
  class : l.self.class.items ≡ l.initial.self.class.items;
  any : l.self.any ≡ l.initial.self.any;
  named : l.self.named ≡ l.initial.self.named;
  done : (k : ℕ) → k < l.class → get_or l.self.masks.items k 0 ≡ bit_or (get_or l.initial.self.masks.items k 0) l.initial.self.any;
  rest : (k : ℕ) → l.class ≤ k → get_or l.self.masks.items k 0 ≡ get_or l.initial.self.masks.items k 0;
}
