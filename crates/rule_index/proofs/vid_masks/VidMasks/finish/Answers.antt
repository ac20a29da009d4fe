use Rattle.std.proofs.Common.{◌≡◌, ◌<◌, ◌+◌, ℕ, List, length, get_or, ap, sym, ◌∙◌, arith, bit_or, refl, set, ◌==◌, ◌≢◌, ◌⊎◌, inl, inr, true, false, ap₂}
use Rattle.std.proofs.lemmas.Bool.Decides.{eqb_tells}
use Rattle.std.proofs.lemmas.List.{get_or-set_other, get_or_default}
use Rattle.std.proofs.lemmas.Grind.{get_or-set_at}
use Rattle.rule_index.proofs.Naming.{naming-done}
use Rattle.rule_index.proofs.vid_masks.VidMasks.finish.Goals as goal

more : (old now : List ℕ) (any at v : ℕ) → at < length now → v ≡ bit_or (get_or old at 0) any
    → ((k : ℕ) → k < at → get_or now k 0 ≡ bit_or (get_or old k 0) any)
    → (k : ℕ) → k < at + 1 → ((k == at) ≡ true × (k ≡ at)) ⊎ ((k == at) ≡ false × (k ≢ at))
    → get_or (set now at v) k 0 ≡ bit_or (get_or old k 0) any
more old now any at v inside value before k h (inl e) =
    get_or-set_at now at k v 0 e.1 inside ∙ value ∙ ap (λ i. bit_or (get_or old i 0) any) (sym e.1)
more old now any at v inside value before k h (inr e) =
    get_or-set_other now at k v 0 e.1 ∙ before k (omega (arith, h, e.1))

pub loop-class-init : goal.loop-class-init
loop-class-init c = record { class = refl; any = refl; named = refl; done = λ k h. absurd (omega arith); rest = λ k h. refl }

pub loop-class-preserved : goal.loop-class-preserved
loop-class-preserved c =
    let at = c.loop-class.class in
    let now = c.loop-class.self.masks.items in
    let old = c.args.self.now.masks.items in
    let any = c.args.self.now.any in
    let v = bit_or c.index_mut.result.now c.loop-class.self.any in
    let inside : at < length now = omega arith in
    let value : v ≡ bit_or (get_or old at 0) any =
    ap₂ bit_or (c.index_mut.ensures.value ∙ get_or_default now at c.index_mut.result.now 0 inside ∙ c.loop-class.invariant.rest at (omega arith)) c.loop-class.invariant.any in
    let invariant = c.loop-class.invariant in
    record {
      class = invariant.class;
      any = invariant.any;
      named = invariant.named;
      done = λ k h. more old now any at v inside value invariant.done k h (eqb_tells k at);
      rest = λ k h. get_or-set_other now at k v 0 (λ e. omega (arith, e, h)) ∙ invariant.rest k (omega (arith, h));
    }

pub returns : goal.returns
returns c = λ filters is.
    let old = c.args.self.now in
    let now = c.loop-class.self in
    rw c.loop-class.invariant.class (naming-done old.class.items old.masks.items now.masks.items old.any old.named filters old.below
    (λ k h. c.loop-class.invariant.done k (omega arith)) is)
