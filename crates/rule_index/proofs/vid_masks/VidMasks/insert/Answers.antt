use Rattle.std.proofs.Common.{◌≡◌, ◌==◌, ◌||◌, ◌<◌, ◌+◌, ℕ, List, length, get_or, true, false, ap, ◌∙◌, refl, arith}
use Rattle.std.proofs.lemmas.Bool.{ne_eqb}
use Rattle.vlan_rule.specs.declared.filter.VidFilter.TheVariants as vid
use Rattle.rule_index.specs.Masks.{with_bit}
use Rattle.rule_index.specs.Vids.{class_at}
use Rattle.rule_index.proofs.Moving.{never-bits, vid-bits, vids-insert, written}
use Rattle.rule_index.proofs.vid_masks.VidMasks.insert.Goals as goal

pub returns-in-Any : goal.returns-in-Any
returns-in-Any c = λ before after between is.
    let self = c.args.self.now in
    let new = c.insert_bits.new.masks in
    let same : length new ≡ self.masks.len = omega (arith, c.insert_bits.ensures.len, c.deref_mut.ensures.len) in
    let moved : (k : ℕ) → k < self.named + 1 → get_or new k 0 ≡ with_bit c.args.place (true || 0 == k) (get_or self.masks.items k 0) =
    λ k h. c.insert_bits.ensures.each k h ∙ ap (λ (l : List ℕ). with_bit c.args.place true (get_or l k 0)) c.deref_mut.ensures.value in
    rw (written new self.masks.items self.masks.len same, c.in-Any.is)
    (vids-insert self.class.items self.masks.items new before vid.Any after c.args.place self.named 0 true between self.below moved (λ v h. refl) refl is)

pub returns-in-Exactly : goal.returns-in-Exactly
returns-in-Exactly c = λ before after between is.
    let self = c.class_of-class.new.self in
    let class = c.class_of-class.result in
    let new = c.insert_bits-in-Exactly.new.masks in
    let same : length new ≡ self.masks.len = omega (arith, c.insert_bits-in-Exactly.ensures.len, c.deref_mut-in-Exactly.ensures.len) in
    let moved : (k : ℕ) → k < self.named + 1 → get_or new k 0 ≡ with_bit c.args.place (false || class == k) (get_or self.masks.items k 0) =
    λ k h. c.insert_bits-in-Exactly.ensures.each k h ∙ ap (λ (l : List ℕ). with_bit c.args.place (false || class == k) (get_or l k 0)) c.deref_mut-in-Exactly.ensures.value in
    let known = c.class_of-class.ensures.class in
    let some : 0 < class_at self.class.items c.in-Exactly.vid = omega (arith, known.0, known.2) in
    let admits = c.class_of-class.ensures.classes _ _ is.admits in
    rw (written new self.masks.items self.masks.len same, c.in-Exactly.is)
    (vids-insert self.class.items self.masks.items new before (vid.Exactly c.in-Exactly.vid) after c.args.place self.named class false between self.below moved
    (λ v h. ap (λ n. n == class_at self.class.items v) known.2 ∙ vid-bits self.class.items self.masks.items _ _ c.in-Exactly.vid admits c.if-vid-lt4096.true some v h)
    (ne_eqb class 0 (λ e. omega (arith, e, known.0))) (record { admits = admits }))

pub returns-in-Exactly-2 : goal.returns-in-Exactly-2
returns-in-Exactly-2 c = λ before after between is.
    let self = c.args.self.now in
    let new = c.insert_bits-in-Exactly-2.new.masks in
    let same : length new ≡ self.masks.len = omega (arith, c.insert_bits-in-Exactly-2.ensures.len, c.deref_mut-in-Exactly-2.ensures.len) in
    let moved : (k : ℕ) → k < self.named + 1 → get_or new k 0 ≡ with_bit c.args.place (false || 129 == k) (get_or self.masks.items k 0) =
    λ k h. c.insert_bits-in-Exactly-2.ensures.each k h ∙ ap (λ (l : List ℕ). with_bit c.args.place (false || 129 == k) (get_or l k 0)) c.deref_mut-in-Exactly-2.ensures.value in
    rw (written new self.masks.items self.masks.len same, c.in-Exactly.is)
    (vids-insert self.class.items self.masks.items new before (vid.Exactly c.in-Exactly.vid) after c.args.place self.named 129 false between self.below moved
    (never-bits self.class.items self.named c.in-Exactly.vid self.below (omega (arith, c.requires.room)) c.if-vid-lt4096.false) refl is)
